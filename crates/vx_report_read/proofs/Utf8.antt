-- A report whose texts are UTF-8 is.
use Rattle.std.proofs.Common.{◌≡◌, ℕ, zero, suc, Bool, true, false, List, [], ◌∷◌, ◌++◌, refl, decimal, IsUtf8}
use Rattle.std.specs.List.{AllByRecursion}
use Rattle.std.specs.Str.{is_utf8}
use Rattle.std.proofs.lemmas.Fmt.{IsAscii-decimal}
use Rattle.std.proofs.lemmas.Str.{IsUtf8-append, IsUtf8-nil, IsUtf8-from_ascii, is_utf8-from_IsUtf8}
use Rattle.json.specs.Print.{quoted}
use Rattle.json.proofs.Printed.Utf8.{are_ascii, IsUtf8-are_ascii, IsUtf8-quoted, IsUtf8-boolean}
use Rattle.serde_json.specs.Data.{Num, unsigned, negative, float, Data, null, boolean, number, string, array, object, Items, no_items, item, Members, no_members, member}
use Rattle.serde_json.specs.Written.{number_text, comma_if, compact_text, items_text, members_text}
use Rattle.vx_base.proofs.Booleans.{and-left, and-right}
use Rattle.vx_json_trip.specs.Strings.{StringsAreUtf8}
use Rattle.vx_json_trip.specs.Trips.{names}
use Rattle.vx_election_model.specs.declared.contest.Contest.{Contest}
use Rattle.vx_election_model.specs.declared.election.Election.{Election}
use Rattle.vx_election_model.specs.declared.named.Named.{Named}
use Rattle.vx_election_model.specs.Valid.{IsValid}
use Rattle.vx_events.specs.declared.event.Event.{Event}
use Rattle.vx_records.specs.Laws.{RecordsAreRead}
use Rattle.vx_center.specs.Histories.{IsHistory}
use Rattle.vx_command.specs.Laws.{TakenElectionsAreValid}
use Rattle.vx_journal.specs.Laws.{JournalsAreHistories}
use Rattle.vx_cvr.specs.Rows.{rows_of}
use Rattle.vx_cvr.specs.Report.{report_over, report_of}
use Rattle.vx_report_read.specs.Texts.{AreUtf8, IsUtf8Choice, IsUtf8Contest, IsUtf8Election, JournalsAreUtf8, ReportsAreUtf8}
use Rattle.vx_report_read.proofs.Each.{each-all, each-weaker, each-both}
use Rattle.vx_results.specs.Fitting.{IsRow}
use Rattle.vx_results.specs.Laws.{RowsFit}
use Rattle.vx_report_read.proofs.Known.{TextsHave, NamesHave, election-has, row-has}
use Rattle.vx_report_read.proofs.Parts.{IsKnown, ChoiceHas, RowHas, report-sound}
use Rattle.vx_report_read.proofs.Sound.{are_ordered, are_plain, IsUnsigned, IsSound, AreSound, MembersAreSound}
use Rattle.vx_report_read.proofs.Written.{rows-words}
use Rattle.vx_report_read.proofs.Defined.{defined-utf8, taken-defined}
use Rattle.vx_report_read.proofs.Journaled.{journaled-utf8}
use Rattle.vx_report_read.proofs.Worded.{device-utf8, moment-utf8}

number-utf8 : (k : Num) → IsUnsigned k → IsUtf8 (number_text k)
number-utf8 (unsigned n) h = IsUtf8-from_ascii (decimal n) (IsAscii-decimal n h)
number-utf8 (negative z) h = absurd h
number-utf8 (float x) h = absurd h

comma-utf8 : (later : Bool) → IsUtf8 (comma_if later)
comma-utf8 true = IsUtf8-are_ascii (44 ∷ []) refl
comma-utf8 false = IsUtf8-nil

behind : (b : ℕ) (text : List ℕ) → are_ascii (b ∷ []) ≡ true → IsUtf8 text → IsUtf8 (b ∷ text)
behind b text plain utf8 = IsUtf8-append (b ∷ []) text (IsUtf8-are_ascii (b ∷ []) plain) utf8

mutual
  text-utf8 : (d : Data) (n : ℕ) → IsSound IsUtf8 d n → IsUtf8 (compact_text d)
  text-utf8 null n h = IsUtf8-are_ascii _ refl
  text-utf8 (boolean b) n h = IsUtf8-boolean b
  text-utf8 (number k) n h = number-utf8 k h
  text-utf8 (string s) n h = IsUtf8-quoted s h
  text-utf8 (array ds) zero h = absurd h
  text-utf8 (array ds) (suc n) h = behind 91 (items_text false ds) refl (items-utf8 ds n false h)
  text-utf8 (object ms) zero h = absurd h
  text-utf8 (object ms) (suc n) h = behind 123 (members_text false ms) refl
      (members-utf8 ms n false (and-right (are_ordered (names ms)) (are_plain (names ms)) h.0) h.1)

  items-utf8 : (ds : Items) (n : ℕ) (later : Bool) → AreSound IsUtf8 ds n → IsUtf8 (items_text later ds)
  items-utf8 no_items n later h = IsUtf8-are_ascii (93 ∷ []) refl
  items-utf8 (item d ds) n later h =
      IsUtf8-append (comma_if later) (compact_text d ++ items_text true ds) (comma-utf8 later)
      (IsUtf8-append (compact_text d) (items_text true ds) (text-utf8 d n h.0) (items-utf8 ds n true h.1))

  members-utf8 : (ms : Members) (n : ℕ) (later : Bool) → are_plain (names ms) ≡ true → MembersAreSound IsUtf8 ms n → IsUtf8 (members_text later ms)
  members-utf8 no_members n later plain h = IsUtf8-are_ascii (125 ∷ []) refl
  members-utf8 (member k d ms) n later plain h =
      let rest = members-utf8 ms n true (and-right (are_ascii k) (are_plain (names ms)) plain) h.1 in
      IsUtf8-append (comma_if later) (quoted k ++ 58 ∷ (compact_text d ++ members_text true ms)) (comma-utf8 later)
      (IsUtf8-append (quoted k) (58 ∷ (compact_text d ++ members_text true ms))
      (IsUtf8-quoted k (IsUtf8-are_ascii k (and-left (are_ascii k) (are_plain (names ms)) plain)))
      (behind 58 (compact_text d ++ members_text true ms) refl (IsUtf8-append (compact_text d) (members_text true ms) (text-utf8 d n h.0) rest)))

known : IsKnown IsUtf8
known = record {
  plain = IsUtf8-are_ascii;
  joined = IsUtf8-append;
  number = λ n small. IsUtf8-from_ascii (decimal n) (IsAscii-decimal n small);
}

texts-utf8 : (election : Election) → IsUtf8Election election → TextsHave IsUtf8 election
texts-utf8 election are = record {
  title = are.title;
  precincts = each-all (λ (named : Named). IsUtf8 named.name) election.precincts are.precincts;
  contests = each-weaker IsUtf8Contest (λ (contest : Contest). IsUtf8 contest.title × AllByRecursion (ChoiceHas IsUtf8) contest.choices) election.contests
      (λ contest is. (is.0, each-all IsUtf8Choice contest.choices is.1)) (each-all IsUtf8Contest election.contests are.contests);
}

history-utf8 : RowsFit → (election : Election) (kept : List Event) (moment id : List ℕ) → IsValid election → IsHistory election kept → AreUtf8 election kept → IsUtf8 moment → IsUtf8 id
    → is_utf8 (report_of election kept moment id) ≡ true
unfolding report_of
history-utf8 fit election kept moment id valid history are at by =
    let rows = rows_of election kept in
    let have = each-both (IsRow election) (NamesHave IsUtf8) (RowHas IsUtf8 election) rows (λ row is names. row-has IsUtf8 known election row valid is names)
    (fit election kept valid history).each (rows-words IsUtf8 election kept history are.names) in
    let sound = report-sound IsUtf8 known election rows moment id (election-has IsUtf8 known election valid (texts-utf8 election are.texts)) have at by in
    let value = report_over election rows moment id in
    is_utf8-from_IsUtf8 (compact_text value ++ 10 ∷ [])
    (IsUtf8-append (compact_text value) (10 ∷ []) (text-utf8 value 12 sound) (IsUtf8-are_ascii (10 ∷ []) refl))

-- the texts of an election that a command takes, and of a journal
pub journal-utf8 : StringsAreUtf8 → RecordsAreRead → JournalsAreUtf8
journal-utf8 strings records election kept of =
    let defined = taken-defined of.file election of.is_taken in
    record {
      texts = defined-utf8 strings defined.0 election defined.1;
      names = journaled-utf8 records election of.records kept of.are_kept;
    }

pub report-utf8 : JournalsAreUtf8 → TakenElectionsAreValid → JournalsAreHistories → RowsFit → ReportsAreUtf8
report-utf8 utf8 valid history fit election kept moment device of words =
    history-utf8 fit election kept moment device (valid of.file election of.is_taken) (history election of.records kept of.are_kept) (utf8 election kept of)
    (moment-utf8 moment words.is_moment) (device-utf8 words.word device words.is_named)
