use Rattle.std.proofs.Common.{arith, sym, ◌∙◌, ◌≡◌, ◌-◌, length, ap, ℕ}
use Rattle.vx_records.proofs.WordsPart.{words_utf8, words_read}
use Rattle.vx_records.proofs.characters.words.Goals as goal

pub text_of-requires : goal.text_of-requires
text_of-requires c =
    let room : c.saturating_sub.result ≡ 256 - (length c.args.text.now - length c.in_ok-rest.rest.now) = c.saturating_sub.ensures ∙ ap (λ (n : ℕ). 256 - n) c.saturating_sub-spent.ensures in
    words_utf8 c.args.text.now c.args.text.now (words_read c.args.text.now c.in_ok-rest.rest.now c.saturating_sub.result c.in_ok-rest.ensures room c.in_ok-characters.ensures)
