-- The least lead of a winner over a rival.
use Rattle.std.proofs.Common.{◌≡◌, ◌⊎◌, inl, inr, ℕ, ◌-◌, ◌<◌, ◌≤◌, Bool, true, false, cond, List, [], ◌∷◌, ◌++◌, length, refl, subst, sym, ap, arith, max, min}
use Rattle.std.specs.Prelude.{All, Some, Contains, count_by, fold, nat_le, nat_lt}
use Rattle.std.specs.List.{reduce}
use Rattle.std.proofs.lemmas.Bool.{cases_lt, both_ways, false≢true, leb-false, ltb-true, lt-ltb, not-true}
use Rattle.std.proofs.lemmas.List.Elements.{All-contains, All-cons, All-head, filter_passes, Contains-append_left, Contains-append_right, Contains-append_cases, Contains-push_cases}
use Rattle.std.proofs.lemmas.List.Sums.{sum_by-le-sum_by}
use Rattle.vx_sampling.specs.declared.standing.Standing.{Standing}
use Rattle.vx_sampling.specs.declared.standing.Standing.TheVariants.{Tie, WriteIn, Margin}
use Rattle.vx_sampling.specs.Leads.{IsLeastLead}
use Rattle.vx_sampling.specs.Standing.{by_least, is_as, standing_of, is_tied, votes_where, wins}
use Rattle.vx_sampling.proofs.Extremes.{here, behind-one, most-bounds, most-reached, least-bounds, least-reached}

counted-once : (a b x : ℕ) → a ≤ b → cond (nat_lt b x) 1 0 ≤ cond (nat_lt a x) 1 0
counted-once a b x below = by (nat_lt b x) refl
  where
    by : (t : Bool) → nat_lt b x ≡ t → cond t 1 0 ≤ cond (nat_lt a x) 1 0
    by false e = omega arith
    by true e = let so : nat_lt a x ≡ true = lt-ltb a x (omega (arith, below, ltb-true b x e)) in rw so (omega arith)

module _ (seats : ℕ) (votes : List ℕ) where
  fewer : (a b : ℕ) → a ≤ b → count_by (λ other. nat_lt b other) votes ≤ count_by (λ other. nat_lt a other) votes
  fewer a b below = sum_by-le-sum_by (λ x. cond (nat_lt b x) 1 0) (λ x. cond (nat_lt a x) 1 0) votes (λ x. counted-once a b x below)

  -- who loses has fewer votes than who wins
  pub lower : (winner loser : ℕ) → wins seats votes winner ≡ true → wins seats votes loser ≡ false → loser < winner
  lower winner loser won lost = by (cases_lt loser winner)
    where
      by : (loser < winner) ⊎ (winner ≤ loser) → loser < winner
      by (inl below) = below
      by (inr above) =
          let few = ltb-true (count_by (λ other. nat_lt winner other) votes) seats won in
          let won-too : wins seats votes loser ≡ true =
          lt-ltb (count_by (λ other. nat_lt loser other) votes) seats (omega (arith, few, fewer winner loser above)) in
          absurd (both_ways (wins seats votes loser) lost won-too)

  pub apart : (winner loser : ℕ) → Contains (votes_where seats votes true) winner → Contains (votes_where seats votes false) loser → loser < winner
  apart winner loser has-winner has-loser =
      lower winner loser
      (All-contains (λ own. wins seats votes own ≡ true) (votes_where seats votes true) winner (filter_passes (λ own. wins seats votes own) votes) has-winner)
      (not-true (wins seats votes loser)
      (All-contains (λ own. is_as false (wins seats votes own) ≡ true) (votes_where seats votes false) loser
      (filter_passes (λ own. is_as false (wins seats votes own)) votes) has-loser))

-- the votes behind those of the losers: those of the slots, or none, where the slots have none and there is a loser
abbrev pub AreBehind : ℕ → List ℕ → List ℕ → Type 0
AreBehind slots losing back = (back ≡ slots ∷ []) ⊎ ((back ≡ []) × (slots ≡ 0) × (0 < length losing))

-- a number that is 0, and that none of some is above, is one of these
lowest : (most : ℕ) (xs : List ℕ) → 0 < length xs → most ≡ 0 → All (λ x. x ≤ most) xs → Contains xs most
lowest most [] has none few = absurd (omega (arith, has))
lowest most (x ∷ xs) has none few =
    let is : x ≡ most = omega (arith, none, All-head (λ x. x ≤ most) x xs few) in subst (λ (n : ℕ). Contains (x ∷ xs) n) is (here x xs)

module _ (losing : List ℕ) (slots : ℕ) where
  abbrev most : ℕ
  most = fold max slots losing

  in-losing : (rival : ℕ) → Contains losing rival → rival ≤ most
  in-losing rival has = All-contains (λ x. x ≤ most) losing rival (most-bounds slots losing).1 has

  in-back : (back : List ℕ) → AreBehind slots losing back → (rival : ℕ) → Contains back rival → rival ≤ most
  in-back back (inl is) rival has =
      by (Contains-push_cases [] slots rival (subst (λ (xs : List ℕ). Contains xs rival) is has))
    where
      by : Contains [] rival ⊎ (slots ≡ rival) → rival ≤ most
      by (inl none) = omega (arith, none.1)
      by (inr same) = omega (arith, same, (most-bounds slots losing).0)
  in-back back (inr none) rival has =
      let within = (subst (λ (xs : List ℕ). Contains xs rival) none.0 has).1 in omega (arith, within)

  at-most : (back : List ℕ) → AreBehind slots losing back → (rival : ℕ) → Contains (losing ++ back) rival → rival ≤ most
  at-most back behind rival has = by (Contains-append_cases losing back rival has)
    where
      by : Contains losing rival ⊎ Contains back rival → rival ≤ most
      by (inl one) = in-losing rival one
      by (inr one) = in-back back behind rival one

  -- the most is a loser's, or the slots'
  reached : (back : List ℕ) → AreBehind slots losing back → Contains (losing ++ back) most
  reached back behind = by behind (most-reached slots losing)
    where
      by : AreBehind slots losing back → (most ≡ slots) ⊎ Contains losing most → Contains (losing ++ back) most
      by which (inr has) = Contains-append_left losing back most has
      by (inl is) (inl same) =
          Contains-append_right losing back most
          (subst (λ (xs : List ℕ). Contains xs most) (sym is) (subst (λ (n : ℕ). Contains (slots ∷ []) n) (sym same) (here slots [])))
      by (inr none) (inl same) = Contains-append_left losing back most (lowest most losing none.2 (omega (arith, same, none.1)) (most-bounds slots losing).1)

abbrev is-margin : Standing → Bool
is-margin Tie = false
is-margin WriteIn = false
is-margin (Margin votes) = true

abbrev margin-of : Standing → ℕ
margin-of Tie = 0
margin-of WriteIn = 0
margin-of (Margin votes) = votes

-- a contest that stands by a margin: the slots don't reach a winner, and it is the difference
from-least : (slots high least margin : ℕ) → by_least slots high (Some least) ≡ Margin margin → (slots < least) × (least - high ≡ margin)
from-least slots high least margin is = by (nat_le least slots) refl is
  where
    by : (t : Bool) → nat_le least slots ≡ t → cond t WriteIn (Margin (least - high)) ≡ Margin margin → (slots < least) × (least - high ≡ margin)
    by true e h = absurd (false≢true (ap is-margin h))
    by false e h = (leb-false least slots e, ap margin-of h)

module _ (losing : List ℕ) (slots : ℕ) (back : List ℕ) (behind : AreBehind slots losing back) (margin : ℕ) where
  by-winners : (winning : List ℕ) → ((winner loser : ℕ) → Contains winning winner → Contains losing loser → loser < winner)
      → by_least slots (most losing slots) (reduce min winning) ≡ Margin margin → IsLeastLead winning (losing ++ back) margin
  by-winners [] over is = absurd (false≢true (ap is-margin is))
  by-winners (one ∷ others) over is =
      let so = from-least slots (most losing slots) (fold min one others) margin is in
      let has = is-least (least-reached one others) in
      let under = below so.0 has (most-reached slots losing) in
      record {
        least = λ winner rival wins rivals.
            let low = All-contains (λ x. fold min one others ≤ x) (one ∷ others) winner
            (All-cons (λ x. fold min one others ≤ x) one others (least-bounds one others).0 (least-bounds one others).1) wins in
            omega (arith, so.1, under, low, at-most losing slots back behind rival rivals);
        winner = fold min one others;
        rival = most losing slots;
        wins = has;
        loses = reached losing slots back behind;
        lead = omega (arith, so.1, under);
        above = omega (arith, so.1, under);
      }
    where
      is-least : (fold min one others ≡ one) ⊎ Contains others (fold min one others) → Contains (one ∷ others) (fold min one others)
      is-least (inl same) = subst (λ (n : ℕ). Contains (one ∷ others) n) (sym same) (here one others)
      is-least (inr has) = behind-one one others (fold min one others) has

      below : slots < fold min one others → Contains (one ∷ others) (fold min one others)
          → (most losing slots ≡ slots) ⊎ Contains losing (most losing slots) → most losing slots < fold min one others
      below few has (inl same) = omega (arith, few, same)
      below few has (inr loser) = over (fold min one others) (most losing slots) has loser

-- a contest with so many seats, the votes of its choices and those of its slots together
pub least_lead : (seats : ℕ) (votes : List ℕ) (slots : ℕ) (back : List ℕ) (margin : ℕ) → AreBehind slots (votes_where seats votes false) back
    → standing_of seats votes slots ≡ Margin margin → IsLeastLead (votes_where seats votes true) (votes_where seats votes false ++ back) margin
least_lead seats votes slots back margin behind is = by (is_tied seats votes) is
  where
    by : (t : Bool)
        → cond t Tie (by_least slots (fold max slots (votes_where seats votes false)) (reduce min (votes_where seats votes true))) ≡ Margin margin
        → IsLeastLead (votes_where seats votes true) (votes_where seats votes false ++ back) margin
    by true h = absurd (false≢true (ap is-margin h))
    by false h = by-winners (votes_where seats votes false) slots back behind margin (votes_where seats votes true) (apart seats votes) h
