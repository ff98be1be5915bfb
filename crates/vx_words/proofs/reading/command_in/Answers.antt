use Rattle.std.proofs.Common.{◌≡◌, ◌∙◌, List, [], ◌∷◌, Option, Some, None, map, length, sym, ap, ap₂, subst, arith, rules}
use Rattle.std.specs.Prelude.{All, codes, option_map, unwrap_or}
use Rattle.clap.specs.Words.{Row, Text, all_of, found_of, rows_of}
use Rattle.clap.proofs.WalkLemmas.{raw_values-rows}
use Rattle.vx_words.specs.Words.{IsArgument, Reads}
use Rattle.vx_words.specs.Line.{rows_for}
use Rattle.vx_words.proofs.Parsed.{behind_found, none_found}
use Rattle.vx_words.proofs.Spellings.{two_words}
use Rattle.vx_words.proofs.reading.command_in.Goals as goal

abbrev second : Option (Text × List Row) → Option (List Row)
second = option_map (λ p. p.1)

abbrev arguments_in : Option (List Row) → Option (List Text)
arguments_in rows = all_of (codes "arguments") (unwrap_or rows [])

pub returns-in_default-get_strs : goal.returns-in_default-get_strs
returns-in_default-get_strs c = λ command spelled.
    let rows : Some (rows_of (found_of c.in-Some.behind.now)) ≡ Some (rows_for c.requires.behind) = c.in-Some.ensures.rows ∙ ap second c.requires.split in
    let none : None ≡ all_of (codes "arguments") (rows_for c.requires.behind) = c.in_default-get_strs.ensures ∙ raw_values-rows (found_of c.in-Some.behind.now) (codes "arguments") ∙ ap arguments_in rows in
    let one : length (map (λ word. word.now) c.args._words.now) ≡ 1 = ap (λ (w : List Text). length w) c.requires.words_are ∙ ap (λ (b : List Text). length (c.requires.name ∷ b)) (none_found c.requires.behind none) in
    absurd (omega (arith, one, two_words (map (λ word. word.now) c.args._words.now) command spelled))

pub command_of-requires : goal.command_of-requires
command_of-requires c =
    let rows : Some (rows_of (found_of c.in-Some.behind.now)) ≡ Some (rows_for c.requires.behind) = c.in-Some.ensures.rows ∙ ap second c.requires.split in
    let some : Some (map (λ word. word.now) c.in-Some-get_strs.arguments.now) ≡ all_of (codes "arguments") (rows_for c.requires.behind) = c.in-Some-get_strs.ensures ∙ raw_values-rows (found_of c.in-Some.behind.now) (codes "arguments") ∙ ap arguments_in rows in
    subst (λ (w : List Text). All IsArgument w) (sym (behind_found c.requires.behind _ some)) c.requires.are_arguments

pub returns : goal.returns
returns c =
    let rows : Some (rows_of (found_of c.in-Some.behind.now)) ≡ Some (rows_for c.requires.behind) = c.in-Some.ensures.rows ∙ ap second c.requires.split in
    let some : Some (map (λ word. word.now) c.in-Some-get_strs.arguments.now) ≡ all_of (codes "arguments") (rows_for c.requires.behind) = c.in-Some-get_strs.ensures ∙ raw_values-rows (found_of c.in-Some.behind.now) (codes "arguments") ∙ ap arguments_in rows in
    let name : c.in-Some.name.now ≡ c.requires.name = search rules in
    let same : c.in-Some.name.now ∷ map (λ word. word.now) c.in-Some-get_strs.arguments.now ≡ map (λ word. word.now) c.args._words.now =
    ap₂ (λ (n : Text) (b : List Text). n ∷ b) name (behind_found c.requires.behind _ some) ∙ sym c.requires.words_are in
    subst (λ (w : List Text). Reads w c.command_of.result) same c.command_of.ensures
