use Rattle.std.proofs.Common.{◌≡◌, ◌≤◌, ◌++◌, ◌∷◌, [], List, ℕ, length, All, sym, subst, rules, arith}
use Rattle.std.proofs.lemmas.Grind.{common_steps}
use Rattle.std.proofs.lemmas.List.Elements.{All-push}
use Rattle.vx_tally.specs.Members.{list_limit}
use Rattle.vx_tally.proofs.contests.Directory.push.Goals as goal

pub invariant_of-self-2 : goal.invariant_of-self-2
invariant_of-self-2 c =
    let is = c.self.invariant in
    let few_own : List (List ℕ) → Type 0 = λ own. length own ≤ list_limit in
    let before = c.self.inside.selections.items in
    let contests : c.push_reserved.new.self.items ≡ c.self.inside.contests.items ++ c.in_ok-contest.contest ∷ [] = search rules in
    let selections : c.push_reserved-2.new.self.items ≡ before ++ c.args.own ∷ [] = search rules in
    record {
      ids_are = grind (arith, common_steps);
      selections_are = grind (arith, common_steps);
      few = grind (arith, common_steps);
      each_few = subst (All few_own) (sym selections) (All-push few_own before c.args.own is.each_few c.requires.own_few);
    }
