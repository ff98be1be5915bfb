use Rattle.std.proofs.Common.{ℕ, List, ◌∷◌, map, sym, subst}
use Rattle.vx_words.specs.Words.{Reads}
use Rattle.vx_words.proofs.Names.{its_word}
use Rattle.vx_words.proofs.making.command_of.Goals as goal

pub returns-in-Some : goal.returns-in-Some
returns-in-Some c =
    let Read : List ℕ → Type 0 = λ word. Reads (word ∷ map (λ w. w.now) c.args.arguments.now) c.command_named.result in
    subst Read (its_word c.args.name.now c.in-Some.known (sym c.in-Some.ensures)) c.command_named.ensures
