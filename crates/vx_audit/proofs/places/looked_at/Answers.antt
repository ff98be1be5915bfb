use Rattle.std.proofs.Common.{◌≡◌, ◌∙◌, ap, sym, List, ℕ, Bool, true, false, ◌++◌, ◌||◌, ◌==◌, ◌<◌, refl}
use Rattle.std.specs.Prelude.{Contains}
use Rattle.std.specs.List.{list_any}
use Rattle.std.proofs.lemmas.List.Elements.{Contains-append_left, Contains-append_right}
use Rattle.std.proofs.lemmas.Map.Views.{Contains-from_any, exact_unsigned_eq}
use Rattle.vx_tally.specs.declared.report.CvrRecord.{CvrRecord}
use Rattle.vx_tally.specs.declared.report.RecordContest.{RecordContest}
use Rattle.vx_audit.specs.declared.hand.HandLine.{HandLine}
use Rattle.vx_audit.specs.Ascending.{counted_places}
use Rattle.vx_audit.specs.Hand.{is_for}
use Rattle.vx_audit.specs.Places.{AddsContests, is_looked_at}
use Rattle.vx_audit.proofs.LinePlaces.{any-map}
use Rattle.vx_audit.proofs.places.looked_at.Goals as goal

-- a contest of the record, or of which there is a line, is among those that were put there
gathered : (lines : List HandLine) (ballot : ℕ) (one : CvrRecord) (own all : List ℕ) → own ≡ counted_places one → AddsContests lines ballot own all
    → (contest : ℕ) → contest < 4294967296 → is_looked_at lines ballot one contest ≡ true → Contains all contest
gathered lines ballot one own all is adds contest small looked =
    rw adds.behind (by (list_any (λ (counted : RecordContest). contest == counted.contest) one.contests) refl looked)
  where
    by : (b : Bool) → list_any (λ (counted : RecordContest). contest == counted.contest) one.contests ≡ b
        → (b || list_any (is_for ballot contest) lines) ≡ true → Contains (own ++ adds.added) contest
    by true e f =
        Contains-append_left own adds.added contest (rw is (Contains-from_any exact_unsigned_eq contest (counted_places one)
        (sym (any-map (λ (counted : RecordContest). counted.contest) contest one.contests) ∙ e)))
    by false e f = Contains-append_right own adds.added contest (adds.has contest small f)

pub returns : goal.returns
returns c =
    let own : c.push_counted.new.contests.items ≡ counted_places c.args.one.now =
    c.in_ok-push_counted.ensures ∙ ap (λ (front : List ℕ). front ++ counted_places c.args.one.now) c.new-contests.ensures.items in
    record {
      ordered = c.put_in_order.ensures.ordered;
      has = λ contest small looked.
          (c.put_in_order.ensures.same contest).1
          (gathered c.args.hand.now c.args.at c.args.one.now c.push_counted.new.contests.items c.push_contests.new.contests.items own c.in_ok-push_contests.ensures contest
          small looked);
    }
