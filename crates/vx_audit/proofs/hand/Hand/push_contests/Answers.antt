use Rattle.std.proofs.Common.{◌≡◌, ◌∙◌, ap, sym, subst, List, ℕ, ◌++◌, map, append-nil}
use Rattle.std.specs.Prelude.{is_some, Contains}
use Rattle.std.specs.List.{list_any}
use Rattle.std.specs.declared.ops.Bound.TheVariants.{Included}
use Rattle.std.specs.BTreeMap.Range.{entries_between}
use Rattle.vx_audit.specs.Hand.{is_for}
use Rattle.vx_audit.specs.Places.{key_cmp}
use Rattle.vx_audit.proofs.LinePlaces.{contest-found, some-position}
use Rattle.vx_audit.proofs.hand.Hand.push_contests.Goals as goal

abbrev contest_of : (ℕ × ℕ) × ℕ → ℕ
contest_of entry = entry.0.1

pub returns : goal.returns
returns c =
    let lines = c.self.inside.lines.items in
    let ballot = c.args.ballot in
    let entries = c.self.inside.places.entries in
    let start = c.new.ensures.start in
    let last = c.new.ensures.end in
    let made = c.range-key-items.ensures.between c.new.ensures.exhausted in
    let between : c.range-key-items.result ≡ entries_between key_cmp (Included (ballot, 0)) (Included (ballot, 4294967295)) entries = cc in
    record {
      added = map contest_of c.range-key-items.result;
      behind = sym (append-nil c.loop-key.contests.items)
          ∙ ap (λ (left : List ((ℕ × ℕ) × ℕ)). c.loop-key.contests.items ++ map contest_of left) (sym c.in-None.ensures.steps.0)
          ∙ c.loop-key.invariant.2
          ∙ ap (λ (left : List ((ℕ × ℕ) × ℕ)). c.args.contests.now.items ++ map contest_of left) c.into_iter-key-iterator.ensures.into_iter_gives;
      has = λ contest small any.
          subst (λ (found : List ((ℕ × ℕ) × ℕ)). Contains (map contest_of found) contest) (sym between)
          (contest-found ballot contest small entries
          (ap is_some (c.self.invariant.at (ballot, contest)) ∙ some-position (is_for ballot contest) 0 lines
          ∙ ap (list_any (is_for ballot contest)) c.self.view_is ∙ any));
    }
