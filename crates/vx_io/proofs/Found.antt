-- What a search by name finds in memory.
use Rattle.std.proofs.Common.{◌≡◌, ◌<◌, ℕ, List, length, Option, None, Some, refl, sym, subst, option_map}
use Rattle.std.specs.Option.{IsSome, IsSomeAnd}
use denote.Ref.{Bor}
use Rattle.vx_io.specs.Outside.{Files, IsThere}

found_by_cases : (found : Option (Bor (List ℕ))) (at : ℕ) → IsSomeAnd (option_map (λ (b : Bor (List ℕ)). b.now) found) (λ bytes. at < length bytes) → IsSomeAnd found (λ b. at < length b.now)
found_by_cases None at p = p
found_by_cases (Some b) at p = p

-- what a search by name finds is what is held there
pub found_there : (file : Option (List ℕ)) (found : Option (Bor (List ℕ))) (at : ℕ) → option_map (λ (b : Bor (List ℕ)). b.now) found ≡ file → IsSomeAnd file (λ bytes. at < length bytes) → IsSomeAnd found (λ b. at < length b.now)
found_there file found at e p = subst (λ (o : Option (List ℕ)). IsSomeAnd o (λ bytes. at < length bytes) → IsSomeAnd found (λ b. at < length b.now)) e (found_by_cases found at) p

-- something is found where a fact of what is found holds
pub IsSome-there : (found : Option (Bor (List ℕ))) (at : ℕ) → IsSomeAnd found (λ b. at < length b.now) → IsSome found
IsSome-there None at p = absurd p
IsSome-there (Some b) at p = refl

-- the place is inside what was found
pub inside_found : (found : Option (Bor (List ℕ))) (b : Bor (List ℕ)) (at : ℕ) → found ≡ Some b → IsSomeAnd found (λ c. at < length c.now) → at < length b.now
inside_found found b at e p = subst (λ (o : Option (Bor (List ℕ))). IsSomeAnd o (λ c. at < length c.now)) e p

-- where files are told, the place is inside one
pub there_told : (files : Files) (name : List ℕ) (at : ℕ) → IsThere (Some files) name at → IsSomeAnd (files name) (λ bytes. at < length bytes)
there_told files name at p =
    let h = p files refl in
    subst (λ (o : Option (List ℕ)). IsSomeAnd o (λ bytes. at < length bytes)) (sym h.1) h.2
