use Rattle.std.proofs.Common.{◌∙◌, ap, ap₂, sym, List, ℕ, [], ◌∷◌, ◌==◌, arith}
use Rattle.std.specs.Prelude.{if◌then◌else◌}
use Rattle.std.proofs.lemmas.List.Splits.{slice_split_first}
use Rattle.std.proofs.lemmas.Option.{MatchOption-at_none, MatchOption-at_some}
use Rattle.std.proofs.lemmas.Str.Pattern.{split_once_first}
use Rattle.vx_audit.specs.Hand.{words_of}
use Rattle.vx_audit.proofs.Blanks.{one-word}
use Rattle.vx_audit.proofs.words.Words.next.Goals as goal

pub returns-in-None : goal.returns-in-None
returns-in-None c =
    let text = c.self.inside.text.now in
    let first = split_once_first 32 text c.split_once.result c.split_once.ensures.cases (omega arith) in
    sym (ap (λ ended. if ended then [] else words_of text) (sym c.if-self.false) ∙ c.self.view_is)
    ∙ one-word (λ b. b == 32) text (MatchOption-at_none _ _ c.in-None.is first)

pub returns-in-Some : goal.returns-in-Some
returns-in-Some c =
    let text = c.self.inside.text.now in
    let first = split_once_first 32 text c.split_once.result c.split_once.ensures.cases (omega arith) in
    let parts = MatchOption-at_some _ _ (c.in-Some.word, c.in-Some.behind) c.in-Some.is first in
    sym (ap (λ ended. if ended then [] else words_of text) (sym c.if-self.false) ∙ c.self.view_is)
    ∙ slice_split_first (λ b. b == 32) text 0 parts.0
    ∙ ap₂ (λ (word behind : List ℕ). word ∷ words_of behind) (sym parts.1) (sym parts.2)
    ∙ ap (λ ended. c.in-Some.word.now ∷ (if ended then [] else words_of c.in-Some.behind.now)) (sym c.if-self.false)
