-- What each half of the items may do with its part of a pass.
use Rattle.std.proofs.Common.{◌≡◌, ℕ, ◌+◌, ◌<◌, ◌≤◌, All, List, ◌++◌, length, map, sum, ap, sym, ◌∙◌, subst, arith, length-append}
use Rattle.std.proofs.lemmas.List.{map-append, get_or_append_left, get_or-append-add}
use Rattle.std.proofs.lemmas.List.Sums.{sum_by-append}
use Rattle.atomic_table.specs.Seated.{TableId}
use Rattle.vx_election_model.specs.declared.election.Election.{Election}
use Rattle.vx_shared.specs.Calls.{Known}
use Rattle.vx_shared.specs.Gained.{MayRun, calls_in}
use Rattle.vx_shared.proofs.Rejoining.{kept, cut}

module _ {A : Type 0} (P : A → Type 0) where
  all_left : (xs ys : List A) → All P (xs ++ ys) → All P xs
  all_left xs ys all k d within =
      subst P (get_or_append_left xs ys d k within) (all k d (let l = length-append xs ys in omega (arith, l, within)))

  all_right : (xs ys : List A) → All P (xs ++ ys) → All P ys
  all_right xs ys all k d within =
      subst P (get_or-append-add xs ys k d) (all (length xs + k) d (let l = length-append xs ys in omega (arith, l, within)))

module _ {T : Type 0} (need : T → ℕ) where
  pub calls_both : (xs ys : List T) → calls_in need (xs ++ ys) ≡ calls_in need xs + calls_in need ys
  calls_both xs ys = ap sum (map-append need xs ys) ∙ sum_by-append (λ (n : ℕ). n) (map need xs) (map need ys)

module _ {T : Type 0} (need : T → ℕ) (fits : Election → T → Type 0) (of : TableId) (old : Known) (low high items : List T)
    (may : MayRun of need fits old items) (whole : low ++ high ≡ items) where
  all_may : MayRun of need fits old (low ++ high)
  all_may = subst (λ (l : List T). MayRun of need fits old l) (sym whole) may

  pub may_low : (mine : Known) → 0 < length low → mine ≡ kept old (length high) (calls_in need high) → MayRun of need fits mine low
  may_low mine some is =
      let all : MayRun of need fits old (low ++ high) = all_may in
      let long = length-append low high in
      let both = calls_both need low high in
      let mine' : MayRun of need fits (kept old (length high) (calls_in need high)) low = record {
        belongs = all.belongs;
        some = some;
        shares = omega (arith, all.shares, long);
        enough = omega (arith, all.enough, both);
        each = all_left (fits old.origin.election) low high all.each;
      } in
      subst (λ (k : Known). MayRun of need fits k low) (sym is) mine'

  pub may_high : (theirs : Known) → 0 < length high → theirs ≡ cut old (length high) (calls_in need high) → MayRun of need fits theirs high
  may_high theirs some is =
      let all : MayRun of need fits old (low ++ high) = all_may in
      let theirs' : MayRun of need fits (cut old (length high) (calls_in need high)) high = record {
        belongs = all.belongs;
        some = some;
        shares = omega arith;
        enough = omega arith;
        each = all_right (fits old.origin.election) low high all.each;
      } in
      subst (λ (k : Known). MayRun of need fits k high) (sym is) theirs'

  -- the second half needs no more calls than the whole, and fewer shares
  pub fewer_calls : calls_in need high ≤ old.calls
  fewer_calls = let all : MayRun of need fits old (low ++ high) = all_may in let both = calls_both need low high in omega (arith, all.enough, both)

  pub fewer_shares : 0 < length low → length high < old.shares
  fewer_shares some = let all : MayRun of need fits old (low ++ high) = all_may in let long = length-append low high in omega (arith, all.shares, long, some)
