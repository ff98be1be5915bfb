use Rattle.std.proofs.Common.{ℕ, ◌∙◌, sym, take, length, arith, rules, of_calls, tests}
use Rattle.std.specs.Str.{chars}
use Rattle.std.proofs.lemmas.List.{length-take}
use Rattle.std.proofs.lemmas.Iterator.{YieldsList-from_chars, YieldsList-from_take, YieldsList-from_map}
use Rattle.std.proofs.lemmas.Iterator.Consumers.{sum_by_from_yields_List, fits_by_from_yields_list}
use lib.Utf8.{encode}
use Rattle.vx_layout.proofs.Bytes.{length-encodes, encodes-at_most}
use Rattle.vx_layout.proofs.typing.line_bytes.Goals as goal

pub sum-requires : goal.sum-requires
sum-requires c =
    let line = take 29 (chars c.args.text.now) in
    record {
      can = search of_calls;
      finite = search of_calls;
      fits = fits_by_from_yields_list (λ (ch : ℕ). length (encode ch)) line c.map.result _
          (YieldsList-from_map _ (λ (ch : ℕ). length (encode ch))
          (YieldsList-from_take 29 (YieldsList-from_chars c.args.text.now c.utf8.text (cc)) (cc)) c.map.ensures.closure (λ x r q k. search (rules, tests)))
          (omega (arith, sym (length-encodes line), encodes-at_most line, length-take 29 (chars c.args.text.now)));
    }

-- the sum of the bytes of each of the next 29 characters
pub returns : goal.returns
returns c =
    let line = take 29 (chars c.args.text.now) in
    sum_by_from_yields_List (λ (ch : ℕ). length (encode ch)) line c.map.result c.sum.result c.sum.ensures.ran
    (YieldsList-from_map _ (λ (ch : ℕ). length (encode ch))
    (YieldsList-from_take 29 (YieldsList-from_chars c.args.text.now c.utf8.text (cc)) (cc)) c.map.ensures.closure (λ x r q k. search (rules, tests)))
    ∙ sym (length-encodes line)
