-- What is shown of each command. A further command has its case in each of the four lemmas.
use Rattle.std.proofs.Common.{◌≡◌, ℕ, Bool, List, [], ◌∷◌, length, map, drop, get_or, Some, Option, refl, ap, ◌∙◌, arith}
use Rattle.std.specs.Fmt.{decimal}
use Rattle.std.specs.Str.Parse.{digits_value}
use Rattle.std.proofs.lemmas.Fmt.{decimal_is_IsNumeral}
use Rattle.std.proofs.lemmas.List.{length-map}
use Rattle.std.proofs.lemmas.List.Elements.{All-cons, All-nil}
use Rattle.vx_grid.specs.declared.kind.Kind.{Kind}
use Rattle.vx_grid.specs.Kinds.{kind_word}
use Rattle.vx_words.specs.declared.command.Command.{Command}
use Rattle.vx_words.specs.declared.command.Command.TheVariants.{Print, Read, Check, Count, Decide, Queue, Export, Demo, Center, Try, Cards, Results, Sample, Desk, Summary, Board, Risk}
use Rattle.vx_words.specs.declared.command.ItemWord.{ItemWord}
use Rattle.vx_words.specs.declared.name.Name.{Name}
use Rattle.vx_words.specs.declared.name.Name.TheVariants as names
use Rattle.vx_words.specs.Devices.{device_of}
use Rattle.vx_words.specs.Items.{item_word}
use Rattle.vx_words.specs.Names.{name_in, name_word}
use Rattle.vx_words.specs.Words.{HasName, IsArgument, IsSound, name_of, words_with}
use Rattle.vx_words.proofs.ItemWords.{item_in, items_back}
use Rattle.vx_words.proofs.Parts.{is_for_test, items_are_arguments, kind_back, kind_in, kind_is_argument, known, number_is_argument, test_back}

-- Each name is found by its own word: no two names of the table are the same, and none is missing in it.
pub found : (name : Name) → name_in (name_word name) ≡ Some name
found names.Print = refl
found names.Read = refl
found names.Check = refl
found names.Count = refl
found names.Decide = refl
found names.Queue = refl
found names.Export = refl
found names.Demo = refl
found names.Center = refl
found names.Try = refl
found names.Cards = refl
found names.Results = refl
found names.Sample = refl
found names.Desk = refl
found names.Summary = refl
found names.Board = refl
found names.Risk = refl

-- the command with a name that words spell, if they spell one
abbrev pub command_at : Name → List (List ℕ) → Command
command_at names.Print words = Print (get_or words 1 []) (digits_value 10 (get_or words 2 [])) (kind_in (get_or words 3 [])) (is_for_test (get_or words 3 []))
command_at names.Read words = Read (get_or words 1 []) (drop 2 words)
command_at names.Check words = Check (get_or words 1 []) (get_or words 2 []) (get_or words 3 [])
command_at names.Count words = Count (get_or words 1 []) (get_or words 2 []) (digits_value 10 (get_or words 3 [])) (drop 4 words)
command_at names.Decide words = Decide (get_or words 1 []) (get_or words 2 [])
command_at names.Queue words = Queue (get_or words 1 [])
command_at names.Export words = Export (get_or words 1 []) (get_or words 2 []) (known (device_of (get_or words 3 [])))
command_at names.Demo words = Demo (digits_value 10 (get_or words 1 [])) (digits_value 10 (get_or words 2 []))
command_at names.Center words = Center (get_or words 1 []) (get_or words 2 []) (known (device_of (get_or words 3 []))) (map item_in (drop 4 words))
command_at names.Try words = Try (get_or words 1 []) (drop 2 words)
command_at names.Cards words = Cards (get_or words 1 [])
command_at names.Results words = Results (get_or words 1 [])
command_at names.Sample words = Sample (get_or words 1 []) (get_or words 2 []) (digits_value 10 (get_or words 3 [])) (get_or words 4 [])
command_at names.Desk words = Desk (get_or words 1 []) (get_or words 2 []) (drop 3 words)
command_at names.Summary words = Summary (get_or words 1 [])
command_at names.Board words = Board (get_or words 1 []) (get_or words 2 []) (digits_value 10 (get_or words 3 []))
command_at names.Risk words =
    Risk (get_or words 1 []) (get_or words 2 []) (digits_value 10 (get_or words 3 [])) (get_or words 4 []) (digits_value 10 (get_or words 5 []))

-- a command is the one that its words spell
pub command_back : (device : List ℕ) (command : Command) → IsSound device command → command_at (name_of command) (words_with device command) ≡ command
command_back device (Print election card kind test) sound =
    let number : digits_value 10 (decimal card) ≡ card = (decimal_is_IsNumeral card (omega (arith, sound.card_in_range))).1 in
    ap (λ (n : ℕ). Print election n (kind_in (kind_word kind test)) (is_for_test (kind_word kind test))) number
    ∙ ap (λ (k : Kind). Print election card k (is_for_test (kind_word kind test))) (kind_back kind test)
    ∙ ap (λ (t : Bool). Print election card kind t) (test_back kind test)
command_back device (Read election scans) sound = refl
command_back device (Check election scans readings) sound = refl
command_back device (Count election batch workers scans) sound =
    ap (λ (n : ℕ). Count election batch n scans) (decimal_is_IsNumeral workers (omega (arith, sound.few_workers))).1
command_back device (Decide election script) sound = refl
command_back device (Queue election) sound = refl
command_back device (Export election moment named) sound = ap (λ (o : Option (List ℕ)). Export election moment (known o)) sound.is_named
command_back device (Demo seed sheets) sound =
    ap (λ (n : ℕ). Demo n (digits_value 10 (decimal sheets))) (decimal_is_IsNumeral seed sound.seed_in_range).1
    ∙ ap (λ (n : ℕ). Demo seed n) (decimal_is_IsNumeral sheets (omega (arith, sound.few_sheets))).1
command_back device (Center election moment named items) sound =
    ap (λ (o : Option (List ℕ)). Center election moment (known o) (map item_in (map item_word items))) sound.as_export.is_named
    ∙ ap (λ (are : List ItemWord). Center election moment named are) (items_back items sound.are_items.are_items)
command_back device (Try election scans) sound = refl
command_back device (Cards election) sound = refl
command_back device (Results election) sound = refl
command_back device (Sample election seed size hand) sound =
    ap (λ (n : ℕ). Sample election seed n hand) (decimal_is_IsNumeral size (omega (arith, sound.is_size.few))).1
command_back device (Desk election batch scans) sound = refl
command_back device (Summary election) sound = refl
command_back device (Board election seed size) sound =
    ap (λ (n : ℕ). Board election seed n) (decimal_is_IsNumeral size (omega (arith, sound.is_size.few))).1
command_back device (Risk election seed size hand limit) sound =
    ap (λ (n : ℕ). Risk election seed n hand (digits_value 10 (decimal limit)))
    (decimal_is_IsNumeral size (omega (arith, sound.as_sample.is_size.few))).1
    ∙ ap (λ (n : ℕ). Risk election seed size hand n) (decimal_is_IsNumeral limit (omega (arith, sound.is_limit.few))).1

-- a command's words, its name behind them
pub named : (device : List ℕ) (command : Command) → IsSound device command → HasName (words_with device command) (name_of command)
named device (Print election card kind test) sound = record {
  first = refl;
  enough = omega arith;
  no_more = omega arith;
  arguments = All-cons IsArgument election (decimal card ∷ kind_word kind test ∷ []) sound.is_argument
      (All-cons IsArgument (decimal card) (kind_word kind test ∷ []) (number_is_argument card (omega (arith, sound.card_in_range)))
      (All-cons IsArgument (kind_word kind test) [] (kind_is_argument kind test) (All-nil IsArgument)));
}
named device (Read election scans) sound = record {
  first = refl;
  enough = omega (arith, sound.are_scans.some);
  no_more = omega (arith, sound.are_scans.few);
  arguments = All-cons IsArgument election scans sound.is_argument sound.are_scans.are_arguments;
}
named device (Check election scans readings) sound = record { first = refl; enough = omega arith; no_more = omega arith; arguments = sound }
named device (Count election batch workers scans) sound = record {
  first = refl;
  enough = omega (arith, sound.are_scans.some);
  no_more = omega (arith, sound.are_scans.few);
  arguments = All-cons IsArgument election (batch ∷ decimal workers ∷ scans) sound.is_argument
      (All-cons IsArgument batch (decimal workers ∷ scans) sound.batch_is_argument
      (All-cons IsArgument (decimal workers) scans (number_is_argument workers (omega (arith, sound.few_workers)))
      sound.are_scans.are_arguments));
}
named device (Decide election script) sound = record { first = refl; enough = omega arith; no_more = omega arith; arguments = sound }
named device (Queue election) sound = record {
  first = refl;
  enough = omega arith;
  no_more = omega arith;
  arguments = All-cons IsArgument election [] sound (All-nil IsArgument);
}
named device (Export election moment known) sound = record {
  first = refl;
  enough = omega arith;
  no_more = omega arith;
  arguments = All-cons IsArgument election (moment ∷ device ∷ []) sound.is_argument
      (All-cons IsArgument moment (device ∷ []) sound.moment_is_argument
      (All-cons IsArgument device [] sound.device_is_argument (All-nil IsArgument)));
}
named device (Demo seed sheets) sound = record {
  first = refl;
  enough = omega arith;
  no_more = omega arith;
  arguments = All-cons IsArgument (decimal seed) (decimal sheets ∷ []) (number_is_argument seed sound.seed_in_range)
      (All-cons IsArgument (decimal sheets) [] (number_is_argument sheets (omega (arith, sound.few_sheets))) (All-nil IsArgument));
}
named device (Center election moment known items) sound =
    let size : length (map item_word items) ≡ length items = length-map items item_word in
    record {
      first = refl;
      enough = omega (arith, size, sound.are_items.some);
      no_more = omega (arith, size, sound.are_items.few);
      arguments = All-cons IsArgument election (moment ∷ device ∷ map item_word items) sound.as_export.is_argument
          (All-cons IsArgument moment (device ∷ map item_word items) sound.as_export.moment_is_argument
          (All-cons IsArgument device (map item_word items) sound.as_export.device_is_argument (items_are_arguments items)));
    }
named device (Try election scans) sound = record {
  first = refl;
  enough = omega (arith, sound.are_scans.some);
  no_more = omega (arith, sound.are_scans.few);
  arguments = All-cons IsArgument election scans sound.is_argument sound.are_scans.are_arguments;
}
named device (Cards election) sound = record {
  first = refl;
  enough = omega arith;
  no_more = omega arith;
  arguments = All-cons IsArgument election [] sound (All-nil IsArgument);
}
named device (Results election) sound = record {
  first = refl;
  enough = omega arith;
  no_more = omega arith;
  arguments = All-cons IsArgument election [] sound (All-nil IsArgument);
}
named device (Sample election seed size hand) sound = record {
  first = refl;
  enough = omega arith;
  no_more = omega arith;
  arguments = All-cons IsArgument election (seed ∷ decimal size ∷ hand ∷ []) sound.is_argument
      (All-cons IsArgument seed (decimal size ∷ hand ∷ []) sound.seed_is_argument
      (All-cons IsArgument (decimal size) (hand ∷ []) (number_is_argument size (omega (arith, sound.is_size.few)))
      (All-cons IsArgument hand [] sound.hand_is_argument (All-nil IsArgument))));
}
named device (Desk election batch scans) sound = record {
  first = refl;
  enough = omega (arith, sound.are_scans.some);
  no_more = omega (arith, sound.are_scans.few);
  arguments = All-cons IsArgument election (batch ∷ scans) sound.is_argument
      (All-cons IsArgument batch scans sound.batch_is_argument sound.are_scans.are_arguments);
}
named device (Summary election) sound = record {
  first = refl;
  enough = omega arith;
  no_more = omega arith;
  arguments = All-cons IsArgument election [] sound (All-nil IsArgument);
}
named device (Board election seed size) sound = record {
  first = refl;
  enough = omega arith;
  no_more = omega arith;
  arguments = All-cons IsArgument election (seed ∷ decimal size ∷ []) sound.is_argument
      (All-cons IsArgument seed (decimal size ∷ []) sound.seed_is_argument
      (All-cons IsArgument (decimal size) [] (number_is_argument size (omega (arith, sound.is_size.few))) (All-nil IsArgument)));
}
named device (Risk election seed size hand limit) sound = record {
  first = refl;
  enough = omega arith;
  no_more = omega arith;
  arguments = All-cons IsArgument election (seed ∷ decimal size ∷ hand ∷ decimal limit ∷ []) sound.as_sample.is_argument
      (All-cons IsArgument seed (decimal size ∷ hand ∷ decimal limit ∷ []) sound.as_sample.seed_is_argument
      (All-cons IsArgument (decimal size) (hand ∷ decimal limit ∷ []) (number_is_argument size (omega (arith, sound.as_sample.is_size.few)))
      (All-cons IsArgument hand (decimal limit ∷ []) sound.as_sample.hand_is_argument
      (All-cons IsArgument (decimal limit) [] (number_is_argument limit (omega (arith, sound.is_limit.few))) (All-nil IsArgument)))));
}
