-- Commands, made of the words behind their names.
use Rattle.std.proofs.Common.{◌≡◌, ◌≤◌, ◌<◌, ◌^◌, ℕ, Bool, true, false, List, [], ◌∷◌, length, map, drop, get_or, Some, None, refl, sym, ap, ◌∙◌, arith}
use Rattle.std.specs.Prelude.{◌≢◌, All, is_some}
use Rattle.std.specs.Borrow.{Bor}
use Rattle.std.specs.Fmt.{decimal}
use Rattle.std.proofs.lemmas.Bool.{false≢true}
use Rattle.std.proofs.lemmas.List.{length-map}
use Rattle.vx_grid.specs.declared.kind.Kind.{Kind}
use Rattle.vx_grid.specs.declared.kind.Kind.TheVariants.{Other}
use Rattle.vx_grid.specs.Kinds.{kind_word}
use Rattle.vx_events.specs.Fits.{is_batch}
use Rattle.vx_words.specs.declared.command.Command.{Command}
use Rattle.vx_words.specs.declared.command.Command.TheVariants.{Print, Read, Check, Count, Decide, Export, Demo, Try, Sample, Desk}
use Rattle.vx_words.specs.Moments.{is_moment}
use Rattle.vx_words.specs.Samples.{IsSeed, IsSize}
use Rattle.vx_words.specs.Devices.{device_of}
use Rattle.vx_words.specs.Words.{IsArgument, NoCommand, Spells}
use Rattle.vx_words.specs.declared.name.Name.TheVariants as names
use Rattle.vx_words.specs.Names.{name_word}
use Rattle.vx_words.proofs.OneSpelling.{spells_it}
use Rattle.vx_words.proofs.Parts.{known}
use Rattle.vx_words.proofs.Spellings.{check_spelled, count_spelled, decide_spelled, demo_spelled, desk_spelled, export_spelled, no_sheets, no_workers, print_spelled, read_spelled, sample_spelled, try_spelled}

-- what the text past the end of a slice is
abbrev pub nowhere : Bor (List ℕ)
nowhere = record { ref_ptr = (0, 0); now = [] }

abbrev pub shown : List (Bor (List ℕ)) → List (List ℕ)
shown words = map (λ (word : Bor (List ℕ)). word.now) words

pub print_made :
    (words : List (Bor (List ℕ))) (none : Bor (List ℕ)) (card : ℕ) (kind : Kind) (test : Bool) → 3 ≤ length words → length words < 4
    → All IsArgument (shown words)
    → card ≤ 1023 → (get_or words 1 none).now ≡ decimal card → kind ≢ Other → (get_or words 2 none).now ≡ kind_word kind test
    → Spells (name_word names.Print ∷ shown words) (Print (get_or words 0 none).now card kind test)
print_made [] none card kind test least most are few is_card printed is_kind = absurd (omega (arith, least))
print_made (a ∷ []) none card kind test least most are few is_card printed is_kind = absurd (omega (arith, least))
print_made (a ∷ b ∷ []) none card kind test least most are few is_card printed is_kind = absurd (omega (arith, least))
print_made (a ∷ b ∷ c ∷ []) none card kind test least most are few is_card printed is_kind =
    print_spelled (name_word names.Print ∷ a.now ∷ b.now ∷ c.now ∷ []) b.now c.now card kind test
    (record { first = refl; enough = omega arith; no_more = omega arith; arguments = are }) refl refl few is_card printed is_kind
print_made (a ∷ b ∷ c ∷ d ∷ more) none card kind test least most are few is_card printed is_kind = absurd (omega (arith, most))

pub check_made : (words : List (Bor (List ℕ))) (none : Bor (List ℕ)) → 3 ≤ length words → length words < 4 → All IsArgument (shown words)
    → Spells (name_word names.Check ∷ shown words) (Check (get_or words 0 none).now (get_or words 1 none).now (get_or words 2 none).now)
check_made [] none least most are = absurd (omega (arith, least))
check_made (a ∷ []) none least most are = absurd (omega (arith, least))
check_made (a ∷ b ∷ []) none least most are = absurd (omega (arith, least))
check_made (a ∷ b ∷ c ∷ []) none least most are =
    check_spelled (name_word names.Check ∷ a.now ∷ b.now ∷ c.now ∷ []) (record { first = refl; enough = omega arith; no_more = omega arith; arguments = are })
check_made (a ∷ b ∷ c ∷ d ∷ more) none least most are = absurd (omega (arith, most))

pub decide_made : (words : List (Bor (List ℕ))) (none : Bor (List ℕ)) → 2 ≤ length words → length words < 3 → All IsArgument (shown words)
    → Spells (name_word names.Decide ∷ shown words) (Decide (get_or words 0 none).now (get_or words 1 none).now)
decide_made [] none least most are = absurd (omega (arith, least))
decide_made (a ∷ []) none least most are = absurd (omega (arith, least))
decide_made (a ∷ b ∷ []) none least most are =
    decide_spelled (name_word names.Decide ∷ a.now ∷ b.now ∷ []) (record { first = refl; enough = omega arith; no_more = omega arith; arguments = are })
decide_made (a ∷ b ∷ c ∷ more) none least most are = absurd (omega (arith, most))

pub read_made : (words : List (Bor (List ℕ))) (none : Bor (List ℕ)) → 2 ≤ length words → length words ≤ 65 → All IsArgument (shown words)
    → Spells (name_word names.Read ∷ shown words) (Read (get_or words 0 none).now (drop 1 (shown words)))
read_made [] none least most are = absurd (omega (arith, least))
read_made (a ∷ []) none least most are = absurd (omega (arith, least))
read_made (a ∷ b ∷ more) none least most are =
    let size : length (shown more) ≡ length more = length-map more (λ (word : Bor (List ℕ)). word.now) in
    read_spelled (name_word names.Read ∷ a.now ∷ b.now ∷ shown more)
    (record { first = refl; enough = omega (arith, size); no_more = omega (arith, size, most); arguments = are })

pub try_made : (words : List (Bor (List ℕ))) (none : Bor (List ℕ)) → 2 ≤ length words → length words ≤ 65 → All IsArgument (shown words)
    → Spells (name_word names.Try ∷ shown words) (Try (get_or words 0 none).now (drop 1 (shown words)))
try_made [] none least most are = absurd (omega (arith, least))
try_made (a ∷ []) none least most are = absurd (omega (arith, least))
try_made (a ∷ b ∷ more) none least most are =
    let size : length (shown more) ≡ length more = length-map more (λ (word : Bor (List ℕ)). word.now) in
    try_spelled (name_word names.Try ∷ a.now ∷ b.now ∷ shown more)
    (record { first = refl; enough = omega (arith, size); no_more = omega (arith, size, most); arguments = are })

pub count_made :
    (words : List (Bor (List ℕ))) (none : Bor (List ℕ)) (workers : ℕ) → 4 ≤ length words → length words ≤ 67 → All IsArgument (shown words)
    → is_batch (get_or words 1 none).now ≡ true → 1 ≤ workers → workers ≤ 64 → (get_or words 2 none).now ≡ decimal workers
    → Spells (name_word names.Count ∷ shown words) (Count (get_or words 0 none).now (get_or words 1 none).now workers (drop 3 (shown words)))
count_made [] none workers least most are good some few is = absurd (omega (arith, least))
count_made (a ∷ []) none workers least most are good some few is = absurd (omega (arith, least))
count_made (a ∷ b ∷ []) none workers least most are good some few is = absurd (omega (arith, least))
count_made (a ∷ b ∷ c ∷ []) none workers least most are good some few is = absurd (omega (arith, least))
count_made (a ∷ b ∷ c ∷ d ∷ more) none workers least most are good some few is =
    let size : length (shown more) ≡ length more = length-map more (λ (word : Bor (List ℕ)). word.now) in
    count_spelled (name_word names.Count ∷ a.now ∷ b.now ∷ c.now ∷ d.now ∷ shown more) b.now c.now workers
    (record { first = refl; enough = omega (arith, size); no_more = omega (arith, size, most); arguments = are }) refl refl good some few is

pub no_workers_made : (words : List (Bor (List ℕ))) (none : Bor (List ℕ)) (workers : ℕ) → 4 ≤ length words
    → (get_or words 2 none).now ≡ decimal workers → workers ≡ 0 → NoCommand (name_word names.Count ∷ shown words)
no_workers_made [] none workers least is zero_is = absurd (omega (arith, least))
no_workers_made (a ∷ []) none workers least is zero_is = absurd (omega (arith, least))
no_workers_made (a ∷ b ∷ []) none workers least is zero_is = absurd (omega (arith, least))
no_workers_made (a ∷ b ∷ c ∷ more) none workers least is zero_is =
    no_workers (name_word names.Count ∷ a.now ∷ b.now ∷ c.now ∷ shown more) c.now workers refl refl is zero_is

pub export_made :
    (words : List (Bor (List ℕ))) (none : Bor (List ℕ)) (named : List ℕ) → length words ≡ 3 → All IsArgument (shown words)
    → is_moment (get_or words 1 none).now ≡ true → device_of (get_or words 2 none).now ≡ Some named
    → Spells (name_word names.Export ∷ shown words) (Export (get_or words 0 none).now (get_or words 1 none).now named)
export_made [] none named three are good known = absurd (omega (arith, three))
export_made (a ∷ []) none named three are good known = absurd (omega (arith, three))
export_made (a ∷ b ∷ []) none named three are good known = absurd (omega (arith, three))
export_made (a ∷ b ∷ c ∷ []) none named three are good known =
    export_spelled (name_word names.Export ∷ a.now ∷ b.now ∷ c.now ∷ []) b.now c.now named
    (record { first = refl; enough = omega arith; no_more = omega arith; arguments = are }) refl refl good known
export_made (a ∷ b ∷ c ∷ d ∷ more) none named three are good known = absurd (omega (arith, three))

pub demo_made :
    (words : List (Bor (List ℕ))) (none : Bor (List ℕ)) (seed sheets : ℕ) → 2 ≤ length words → length words < 3 → All IsArgument (shown words)
    → seed < 2 ^ 64 → (get_or words 0 none).now ≡ decimal seed → 1 ≤ sheets → sheets ≤ 1000 → (get_or words 1 none).now ≡ decimal sheets
    → Spells (name_word names.Demo ∷ shown words) (Demo seed sheets)
demo_made [] none seed sheets least most are small is_seed some few is = absurd (omega (arith, least))
demo_made (a ∷ []) none seed sheets least most are small is_seed some few is = absurd (omega (arith, least))
demo_made (a ∷ b ∷ []) none seed sheets least most are small is_seed some few is =
    demo_spelled (name_word names.Demo ∷ a.now ∷ b.now ∷ []) a.now b.now seed sheets
    (record { first = refl; enough = omega arith; no_more = omega arith; arguments = are }) refl refl small is_seed some few is
demo_made (a ∷ b ∷ c ∷ more) none seed sheets least most are small is_seed some few is = absurd (omega (arith, most))

pub no_sheets_made : (words : List (Bor (List ℕ))) (none : Bor (List ℕ)) (sheets : ℕ) → 2 ≤ length words → (get_or words 1 none).now ≡ decimal sheets
    → sheets ≡ 0 → NoCommand (name_word names.Demo ∷ shown words)
no_sheets_made [] none sheets least is zero_is = absurd (omega (arith, least))
no_sheets_made (a ∷ []) none sheets least is zero_is = absurd (omega (arith, least))
no_sheets_made (a ∷ b ∷ more) none sheets least is zero_is = no_sheets (name_word names.Demo ∷ a.now ∷ b.now ∷ shown more) b.now sheets refl refl is zero_is

-- words behind `export` are an election, a moment and a device's word
record IsExport (words : List (List ℕ)) : Type 0 where
  election : List ℕ
  moment : List ℕ
  device : List ℕ
  named : List ℕ
  words_are : words ≡ name_word names.Export ∷ election ∷ moment ∷ device ∷ []
  good : is_moment moment ≡ true
  is_named : device_of device ≡ Some named

exported : (behind : List (List ℕ)) (command : Command) → Spells (name_word names.Export ∷ behind) command → IsExport (name_word names.Export ∷ behind)
exported behind command spelled =
    let export = spells_it (name_word names.Export ∷ behind) names.Export command refl spelled in
    record {
      election = get_or behind 0 [];
      moment = get_or behind 1 [];
      device = export.device;
      named = known (device_of (get_or behind 2 []));
      words_are = export.words_are;
      good = export.sound.is_moment;
      is_named = export.sound.is_named;
    }

pub not_three : (words : List (Bor (List ℕ))) → (length words ≡ 3 → ⊥) → NoCommand (name_word names.Export ∷ shown words)
not_three words other = λ command spelled.
    let is : IsExport (name_word names.Export ∷ shown words) = exported (shown words) command spelled in
    let size : length (shown words) ≡ length words = length-map words (λ (word : Bor (List ℕ)). word.now) in
    let four : length (name_word names.Export ∷ shown words) ≡ 4 = ap (λ (w : List (List ℕ)). length w) is.words_are in
    other (omega (arith, size, four))

pub no_moment_made : (words : List (Bor (List ℕ))) (none : Bor (List ℕ)) → length words ≡ 3 → is_moment (get_or words 1 none).now ≡ false
    → NoCommand (name_word names.Export ∷ shown words)
no_moment_made [] none three bad = absurd (omega (arith, three))
no_moment_made (a ∷ []) none three bad = absurd (omega (arith, three))
no_moment_made (a ∷ b ∷ more) none three bad = λ command spelled.
    let is : IsExport (name_word names.Export ∷ a.now ∷ b.now ∷ shown more) = exported (a.now ∷ b.now ∷ shown more) command spelled in
    let same : b.now ≡ is.moment = ap (λ (w : List (List ℕ)). get_or w 2 []) is.words_are in
    false≢true (sym bad ∙ ap is_moment same ∙ is.good)

pub no_device_made : (words : List (Bor (List ℕ))) (none : Bor (List ℕ)) → length words ≡ 3 → None ≡ device_of (get_or words 2 none).now
    → NoCommand (name_word names.Export ∷ shown words)
no_device_made [] none three bad = absurd (omega (arith, three))
no_device_made (a ∷ []) none three bad = absurd (omega (arith, three))
no_device_made (a ∷ b ∷ []) none three bad = absurd (omega (arith, three))
no_device_made (a ∷ b ∷ c ∷ more) none three bad = λ command spelled.
    let is : IsExport (name_word names.Export ∷ a.now ∷ b.now ∷ c.now ∷ shown more) = exported (a.now ∷ b.now ∷ c.now ∷ shown more) command spelled in
    let same : c.now ≡ is.device = ap (λ (w : List (List ℕ)). get_or w 3 []) is.words_are in
    false≢true (ap is_some (bad ∙ ap device_of same ∙ is.is_named))

pub sample_made :
    (words : List (Bor (List ℕ))) (none : Bor (List ℕ)) (bytes : List ℕ) (size : ℕ) → 4 ≤ length words → length words < 5 → All IsArgument (shown words)
    → IsSeed (get_or words 1 none).now bytes → IsSize (get_or words 2 none).now size
    → Spells (name_word names.Sample ∷ shown words) (Sample (get_or words 0 none).now (get_or words 1 none).now size (get_or words 3 none).now)
sample_made [] none bytes size least most are is_seed is_size = absurd (omega (arith, least))
sample_made (a ∷ []) none bytes size least most are is_seed is_size = absurd (omega (arith, least))
sample_made (a ∷ b ∷ []) none bytes size least most are is_seed is_size = absurd (omega (arith, least))
sample_made (a ∷ b ∷ c ∷ []) none bytes size least most are is_seed is_size = absurd (omega (arith, least))
sample_made (a ∷ b ∷ c ∷ d ∷ []) none bytes size least most are is_seed is_size =
    sample_spelled (name_word names.Sample ∷ a.now ∷ b.now ∷ c.now ∷ d.now ∷ []) b.now c.now bytes size
    (record { first = refl; enough = omega arith; no_more = omega arith; arguments = are }) refl refl is_seed is_size
sample_made (a ∷ b ∷ c ∷ d ∷ e ∷ more) none bytes size least most are is_seed is_size = absurd (omega (arith, most))

pub desk_made :
    (words : List (Bor (List ℕ))) (none : Bor (List ℕ)) → 3 ≤ length words → length words ≤ 66 → All IsArgument (shown words)
    → is_batch (get_or words 1 none).now ≡ true
    → Spells (name_word names.Desk ∷ shown words) (Desk (get_or words 0 none).now (get_or words 1 none).now (drop 2 (shown words)))
desk_made [] none least most are good = absurd (omega (arith, least))
desk_made (a ∷ []) none least most are good = absurd (omega (arith, least))
desk_made (a ∷ b ∷ []) none least most are good = absurd (omega (arith, least))
desk_made (a ∷ b ∷ c ∷ more) none least most are good =
    let size : length (shown more) ≡ length more = length-map more (λ (word : Bor (List ℕ)). word.now) in
    desk_spelled (name_word names.Desk ∷ a.now ∷ b.now ∷ c.now ∷ shown more) b.now
    (record { first = refl; enough = omega (arith, size); no_more = omega (arith, size, most); arguments = are }) refl good
