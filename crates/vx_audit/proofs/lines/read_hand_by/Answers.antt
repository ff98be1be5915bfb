use Rattle.std.proofs.Common.{◌∙◌, ap, sym, List, ℕ, length}
use Rattle.std.proofs.lemmas.List.{nil_from_length}
use Rattle.vx_base.proofs.Numbers.{equal-from_yes}
use Rattle.vx_audit.specs.Finding.{ballot_in}
use Rattle.vx_audit.specs.Hand.{hand_by, hand_behind, lines_of}
use Rattle.vx_audit.proofs.lines.read_hand_by.Goals as goal

pub returns : goal.returns
unfolding hand_by
returns c =
    let read = nil_from_length c.lines.text.now (equal-from_yes (length c.lines.text.now) 0 (sym c.is_empty.ensures ∙ c.lines-test.false)) in
    sym c.lines.invariant.so_far ∙ ap (λ (left : List ℕ). hand_behind c.args.contests.now (ballot_in c.args.directory.now) c.lines.hand (lines_of left)) read
