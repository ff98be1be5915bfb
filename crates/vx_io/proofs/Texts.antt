-- Laws of what a sink has taken, of fronts of a text, of counts of faults, and of what is read.
use Rattle.std.proofs.Common.{◌≡◌, ◌+◌, ◌-◌, ◌≤◌, ℕ, List, [], ◌++◌, length, take, drop, Option, None, Some, Bool, false, IfSome, refl, sym, ap, ◌∙◌, subst, arith}
use Rattle.std.proofs.lemmas.Bool.{false≢true}
use Rattle.std.proofs.lemmas.List.{append-nil, append_assoc, take-append-drop, take-take, drop-take, take_rest, length-append, length-take-le, take-append-le}
use Rattle.std.proofs.Math.Seq.{take-append-add}
use borrow.Rule.Slice.PartMut.{put_mid}
use Rattle.vx_io.specs.Outside.{Files, CountsFaults, ReadsFrom, IsPrefix, Took, TookFront}

-- a text begins itself
pub IsPrefix-refl : (text : List ℕ) → IsPrefix text text
IsPrefix-refl text = record { rest = []; is = sym (append-nil text) }

-- nothing begins every text
pub IsPrefix-nil : (text : List ℕ) → IsPrefix [] text
IsPrefix-nil text = record { rest = text; is = refl }

-- a text begins what it is continued to
pub IsPrefix-append : (front rest : List ℕ) → IsPrefix front (front ++ rest)
IsPrefix-append front rest = record { rest = rest; is = refl }

-- the first so many bytes of a text begin it
pub IsPrefix-take : (n : ℕ) (text : List ℕ) → IsPrefix (take n text) text
IsPrefix-take n text = record { rest = drop n text; is = sym (take-append-drop n text) }

-- what begins a front of a text begins the text
pub IsPrefix-trans : (a b c : List ℕ) → IsPrefix a b → IsPrefix b c → IsPrefix a c
IsPrefix-trans a b c p q =
    record { rest = p.rest ++ q.rest; is = q.is ∙ (ap (λ s. s ++ q.rest) p.is ∙ append_assoc a p.rest q.rest) }

-- what begins the second of two texts begins their whole behind the first
pub IsPrefix-behind : (a front text : List ℕ) → IsPrefix front text → IsPrefix (a ++ front) (a ++ text)
IsPrefix-behind a front text p =
    record { rest = p.rest; is = ap (λ s. a ++ s) p.is ∙ sym (append_assoc a front p.rest) }

-- as before, a sink has taken nothing
pub Took-nil : (told : Option (List ℕ)) → Took told told []
Took-nil None = refl
Took-nil (Some before) = ap Some (sym (append-nil before))

-- one text taken after another
pub Took-append : (a b c : Option (List ℕ)) (s t : List ℕ) → Took a b s → Took b c t → Took a c (s ++ t)
Took-append None b c s t p q = let q' = subst (λ (o : Option (List ℕ)). Took o c t) p q in q'
Took-append (Some before) b c s t p q =
    let q' = subst (λ (o : Option (List ℕ)). Took o c t) p q in q' ∙ ap Some (append_assoc before s t)

-- where a text was taken whole, a front of it was taken
pub TookFront-whole : (a b : Option (List ℕ)) (text : List ℕ) → Took a b text → TookFront a b text
TookFront-whole a b text p = record { front = text; took = p; is_prefix = IsPrefix-refl text }

-- as before, a sink has taken a front of any text
pub TookFront-nil : (told : Option (List ℕ)) (text : List ℕ) → TookFront told told text
TookFront-nil told text = record { front = []; took = Took-nil told; is_prefix = IsPrefix-nil text }

-- one text taken, and then a front of another
pub TookFront-append : (a b c : Option (List ℕ)) (s t : List ℕ) → Took a b s → TookFront b c t → TookFront a c (s ++ t)
TookFront-append a b c s t p q =
    record {
      front = s ++ q.front;
      took = Took-append a b c s q.front p q.took;
      is_prefix = IsPrefix-behind s q.front t q.is_prefix;
    }

-- a front of a text is a front of what the text is continued to
pub TookFront-longer : (a b : Option (List ℕ)) (s t : List ℕ) → TookFront a b s → TookFront a b (s ++ t)
TookFront-longer a b s t p =
    record {
      front = p.front;
      took = p.took;
      is_prefix = IsPrefix-trans p.front s (s ++ t) p.is_prefix (IsPrefix-append s t);
    }

-- a device that wasn't called counts no fault
pub CountsFaults-nothing : (count : ℕ) → CountsFaults false count count
CountsFaults-nothing count = record { later = omega arith; rose = λ e. absurd (false≢true e); still = λ e. refl }

-- a call that follows others without a fault counts for all of them
pub CountsFaults-after : (failed : Bool) (a b c : ℕ) → CountsFaults false a b → CountsFaults failed b c → CountsFaults failed a c
CountsFaults-after failed a b c p q = subst (λ (n : ℕ). CountsFaults failed n c) (p.still refl) q

-- a call that others without a fault follow counts for all of them
pub CountsFaults-before : (failed : Bool) (a b c : ℕ) → CountsFaults failed a b → CountsFaults false b c → CountsFaults failed a c
CountsFaults-before failed a b c p q = subst (λ (n : ℕ). CountsFaults failed a n) (sym (q.still refl)) p

-- a front, and then more of the same text
take_further : (text : List ℕ) (at count : ℕ) → take at text ++ take count (drop at text) ≡ take (at + count) text
take_further text at count =
    ap (λ s. s ++ take count (drop at text)) (sym (take-take at (at + count) text (omega arith)))
    ∙ (ap (λ s. take at (take (at + count) text) ++ s) (sym (drop-take at count text))
    ∙ take-append-drop at (take (at + count) text))

-- a front taken, and then so many bytes of what is left
pub Took-further : (a b c : Option (List ℕ)) (text : List ℕ) (at count : ℕ) → Took a b (take at text) → Took b c (take count (take (length text - at) (drop at text))) → Took a c (take (at + count) text)
Took-further a b c text at count p q =
    subst (λ (s : List ℕ). Took a c s) (take_further text at count)
    (Took-append a b c (take at text) (take count (drop at text)) p
    (subst (λ (s : List ℕ). Took b c (take count s)) (take_rest text at) q))

-- a front taken, and then a front of what is left
pub TookFront-further : (a b c : Option (List ℕ)) (text : List ℕ) (at : ℕ) → Took a b (take at text) → TookFront b c (take (length text - at) (drop at text)) → TookFront a c text
TookFront-further a b c text at p q =
    subst (λ (s : List ℕ). TookFront a c s) (take-append-drop at text)
    (TookFront-append a b c (take at text) (drop at text) p
    (subst (λ (s : List ℕ). TookFront b c s) (take_rest text at) q))

-- what was read from the start of a file, and what was read behind it
append_read : (file : Option (List ℕ)) (front more : List ℕ) (at : ℕ) → length front ≡ at → IfSome file (λ bytes. front ≡ take (length front) (drop 0 bytes)) → IfSome file (λ bytes. more ≡ take (length more) (drop at bytes)) → IfSome file (λ bytes. front ++ more ≡ take (length (front ++ more)) (drop 0 bytes))
append_read None front more at e p q = tt
append_read (Some bytes) front more at e p q =
    let r : front ≡ take at bytes = subst (λ (n : ℕ). front ≡ take n bytes) e p in
    ap (λ s. s ++ more) r
    ∙ (ap (λ s. take at bytes ++ s) q
    ∙ (take_further bytes at (length more)
    ∙ ap (λ n. take n bytes) (ap (λ n. n + length more) (sym e) ∙ sym (length-append front more))))

pub ReadsFrom-append : (told : Option Files) (name front more : List ℕ) (at : ℕ) → length front ≡ at → ReadsFrom told name 0 front → ReadsFrom told name at more → ReadsFrom told name 0 (front ++ more)
ReadsFrom-append None name front more at e p q = tt
ReadsFrom-append (Some files) name front more at e p q = append_read (files name) front more at e p q

-- the front of a buffer whose part from a place on was written
take_written : (at count : ℕ) (buffer piece : List ℕ) → at ≤ length buffer → count ≤ length piece → take at buffer ++ take count piece ≡ take (at + count) (put_mid at (length buffer - at) buffer piece)
take_written at count buffer piece a b =
    let rest = drop (length buffer - at) (drop at buffer) in
    let e : length (take at buffer) ≡ at = length-take-le at buffer a in
    sym
    (subst (λ (n : ℕ). take (n + count) (take at buffer ++ (piece ++ rest)) ≡ take at buffer ++ take count piece) e
    (take-append-add (take at buffer) (piece ++ rest) count ∙ ap (λ s. take at buffer ++ s) (take-append-le count piece rest b)))

pub length_written : (at count : ℕ) (buffer piece : List ℕ) → at ≤ length buffer → count ≤ length piece → at + count ≤ length (put_mid at (length buffer - at) buffer piece)
length_written at count buffer piece a b =
    let rest = drop (length buffer - at) (drop at buffer) in
    omega (arith, length-append (take at buffer) (piece ++ rest), length-append piece rest, length-take-le at buffer a)

-- what is read into the rest of a buffer goes on where its front ended
pub ReadsFrom-further : (told now : Option Files) (name : List ℕ) (at count : ℕ) (buffer piece : List ℕ) → now ≡ told → at ≤ length buffer → count ≤ length piece → ReadsFrom told name 0 (take at buffer) → ReadsFrom now name at (take count piece) → ReadsFrom told name 0 (take (at + count) (put_mid at (length buffer - at) buffer piece))
ReadsFrom-further told now name at count buffer piece e a b p q =
    subst (λ (s : List ℕ). ReadsFrom told name 0 s) (take_written at count buffer piece a b)
    (ReadsFrom-append told name (take at buffer) (take count piece) at (length-take-le at buffer a) p (subst (λ (o : Option Files). ReadsFrom o name at (take count piece)) e q))
