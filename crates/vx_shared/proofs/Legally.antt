-- Longer histories.
use Rattle.std.proofs.Common.{◌≡◌, ◌≢◌, ℕ, zero, suc, if◌then◌else◌, Bool, true, false, List, [], ◌∷◌, ◌++◌, length, take, slice_get, Some, sym, refl, ap, ◌∙◌, subst, arith, append_assoc}
use Rattle.std.proofs.lemmas.Grind.{common_steps}
use mathlib.Core.Logic.{dite}
use native.Mathlib.Decide.{ℕ_discrete}
use Rattle.vx_events.specs.declared.event.Event.{Event}
use Rattle.vx_refusals.specs.declared.reply.Reply.{Reply}
use Rattle.vx_center.specs.Kept.{Kept}
use Rattle.vx_center.specs.Replies.{reply_of, next_of, is_done}
use Rattle.vx_shared.specs.declared.history.Entry.{Entry}
use Rattle.vx_shared.specs.Legal.{IsLegal, IsHeld, done_of, done_events, entry}

nil_append : (xs : List Event) → xs ≡ xs ++ []
nil_append xs = grind (arith, common_steps)

done_more : (history : List Entry) (call : Entry) → done_events (history ++ call ∷ []) ≡ done_events history ++ done_of call
done_more [] call = sym (nil_append (done_of call))
done_more (x ∷ xs) call = ap (λ (l : List Event). done_of x ++ l) (done_more xs call) ∙ sym (append_assoc (done_of x) (done_events xs) (done_of call))

kept_more : (b : Bool) (xs ys : List Event) (event : Event) → (if b then (xs ++ ys) ++ event ∷ [] else xs ++ ys) ≡ xs ++ (ys ++ (if b then event ∷ [] else []))
kept_more true xs ys event = append_assoc xs ys (event ∷ [])
kept_more false xs ys event = ap (λ (l : List Event). xs ++ l) (nil_append ys)

-- a place of a longer list is one of the list, or the last
at_more : {A : Type 0} (xs : List A) (x y : A) (place : ℕ) → slice_get (xs ++ x ∷ []) place ≡ Some y → place ≢ length xs → slice_get xs place ≡ Some y
at_more [] x y zero e ne = absurd (ne refl)
at_more [] x y (suc place) e ne = e
at_more (z ∷ zs) x y zero e ne = e
at_more (z ∷ zs) x y (suc place) e ne = at_more zs x y place e (λ h. ne (omega arith))

at_end : {A : Type 0} (xs : List A) (x : A) → slice_get (xs ++ x ∷ []) (length xs) ≡ Some x
at_end [] x = refl
at_end (z ∷ zs) x = at_end zs x

some_same : {A : Type 0} (x y : A) → Some x ≡ Some y → x ≡ y
some_same x y e = cc

take_before : {A : Type 0} (xs ys : List A) (y : A) (place : ℕ) → slice_get xs place ≡ Some y → take place (xs ++ ys) ≡ take place xs
take_before [] ys y place e = absurd (cc e)
take_before (z ∷ zs) ys y zero e = refl
take_before (z ∷ zs) ys y (suc place) e = ap (λ (l : List _). z ∷ l) (take_before zs ys y place e)

take_all : {A : Type 0} (xs ys : List A) → take (length xs) (xs ++ ys) ≡ xs
take_all [] ys = refl
take_all (z ∷ zs) ys = ap (λ (l : List _). z ∷ l) (take_all zs ys)

-- a history with one more call
pub legal_more : (start : Kept) (history : List Entry) (event : Event) (reply : Reply) → IsLegal start history
    → reply ≡ reply_of start.election (start.events ++ done_events history) event → IsLegal start (history ++ entry event reply ∷ [])
legal_more start history event reply legal is = record {
  replies = (λ place call at. dite (ℕ_discrete place (length history))
      (λ last.
      let at' : slice_get (history ++ entry event reply ∷ []) (length history) ≡ Some call = subst (λ (k : ℕ). slice_get (history ++ entry event reply ∷ []) k ≡ Some call) last at in
      let same : entry event reply ≡ call = some_same (entry event reply) call (sym (at_end history (entry event reply)) ∙ at') in
      let front : take place (history ++ entry event reply ∷ []) ≡ history = ap (λ (k : ℕ). take k (history ++ entry event reply ∷ [])) last ∙ take_all history (entry event reply ∷ []) in
      let P : Entry → List Entry → Type 0 = λ c l. c.reply ≡ reply_of start.election (start.events ++ done_events l) c.event in
      subst (λ (c : Entry). P c (take place (history ++ entry event reply ∷ []))) same (subst (λ (l : List Entry). P (entry event reply) l) (sym front) is))
      (λ before.
      let there = at_more history (entry event reply) call place at before in
      subst (λ (l : List Entry). call.reply ≡ reply_of start.election (start.events ++ done_events l) call.event)
      (sym (take_before history (entry event reply ∷ []) call place there)) (legal.replies place call there)));
}

-- what the turn protects, after a call
pub applied : (start center center' : Kept) (items items' : List Entry) (event : Event) (reply : Reply) → IsHeld start center items
    → reply ≡ reply_of center.election center.events event
    → center' ≡ record center { events = next_of center.election center.events event }
    → items' ≡ items ++ entry event reply ∷ []
    → IsHeld start center' items'
applied start center center' items items' event reply held is next now =
    let here : reply ≡ reply_of start.election (start.events ++ done_events items) event = is ∙ ap (λ (m : Kept). reply_of m.election m.events event) held.kept in
    let grown : next_of start.election (start.events ++ done_events items) event ≡ start.events ++ done_events (items ++ entry event reply ∷ []) =
    ap (λ (q : Reply). if is_done q then (start.events ++ done_events items) ++ event ∷ [] else start.events ++ done_events items) (sym here)
    ∙ (kept_more (is_done reply) start.events (done_events items) event ∙ ap (λ (l : List Event). start.events ++ l) (sym (done_more items (entry event reply)))) in
    subst (λ (l : List Entry). IsHeld start center' l) (sym now) record {
      legal = legal_more start items event reply held.legal here;
      kept = next ∙ (ap (λ (m : Kept). let x : Kept = record m { events = next_of m.election m.events event } in x) held.kept
          ∙ ap (λ (l : List Event). let x : Kept = record { election = start.election; events = l } in x) grown);
    }
