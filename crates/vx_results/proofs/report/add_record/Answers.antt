use Rattle.std.proofs.Common.{◌∷◌, ◌++◌, [], List, rules, subst, sym, take}
use Rattle.vx_tally.specs.declared.report.CvrRecord.{CvrRecord}
use Rattle.vx_tally.specs.Running.{SumsUp}
use Rattle.vx_results.proofs.Ordered.{one_more}
use Rattle.vx_results.proofs.report.add_record.Goals as goal

pub returns : goal.returns
returns c =
    let records : List CvrRecord = c.args.records.now in
    let added : SumsUp (take c.args.at records ++ c.in_ok-made.made ∷ []) c.add.new.self = search rules in
    subst (λ (some : List CvrRecord). SumsUp some c.add.new.self)
    (sym (one_more records c.args.at c.in_ok-made.made c.in_ok-made.ensures.exact)) added
