use Rattle.std.proofs.Common.{rules, ◌≡◌, false, true, length, nat_lt, sym, refl}
use Rattle.std.specs.Prelude.{◌==◌}
use Rattle.serde_json.proofs.OnLiterals.{serde_json_on_literals}
use Rattle.vx_cvr.proofs.sheets.status.Goals as goal

pub returns-then-is_overvoted : goal.returns-then-is_overvoted
unfolding serde_json_on_literals
returns-then-is_overvoted c = rw (sym c.if-is_overvoted.ensures) refl

pub returns-then-count-eq0 : goal.returns-then-count-eq0
unfolding serde_json_on_literals
returns-then-count-eq0 c =
    let none : length c.args.counted.now.selected ≡ 0 = search rules in
    rw (sym c.if-is_overvoted.ensures, none) refl

pub returns-then-count-contest : goal.returns-then-count-contest
unfolding serde_json_on_literals
returns-then-count-contest c =
    let some : length c.args.counted.now.selected == 0 ≡ false = search rules in
    let under : nat_lt (length c.args.counted.now.selected) c.args.contest.now.seats ≡ true = search rules in
    rw (sym c.if-is_overvoted.ensures, some, under) refl
