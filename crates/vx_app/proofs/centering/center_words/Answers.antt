use Rattle.std.proofs.Common.{◌≡◌, ◌∙◌, Bool, true, false, Err, refl, ap, sym, subst}
use Rattle.std.proofs.lemmas.Bool.{false≢true}
use Rattle.vx_command.specs.declared.status.Status.{Status}
use Rattle.vx_command.specs.declared.status.Status.TheVariants.{Usage}
use Rattle.vx_words.specs.declared.command.Command.{Command}
use Rattle.vx_words.specs.declared.command.Command.TheVariants.{Center}
use Rattle.vx_words.specs.declared.fault.UsageFault.{UsageFault}
use Rattle.vx_words.specs.Words.{NoCommand, Parses, Spells}
use Rattle.vx_app.proofs.Centered.{asks-nothing, asks-of, centers-of}
use Rattle.vx_app.proofs.Named.{is_center, names_center, no_other}
use Rattle.vx_app.proofs.centering.center_words.Goals as goal

-- the one status of words that are no center
is_usage : Status → Bool
is_usage Usage = true
is_usage other = false

pub returns-then-not-is_center-clause-usage : goal.returns-then-not-is_center-clause-usage
returns-then-not-is_center-clause-usage g c =
    (λ is election moment device items spells. false≢true (sym c.if-not-is_center.true ∙ c.is_center.ensures.1 (names_center c.args.words.now election moment device items spells)), λ none. refl)

pub returns-then-not-is_center-clause-done : goal.returns-then-not-is_center-clause-done
returns-then-not-is_center-clause-done g c files told election moment device items spells records held =
    absurd (false≢true (sym c.if-not-is_center.true ∙ c.is_center.ensures.1 (names_center c.args.words.now election moment device items spells)))

pub returns-then-not-is_center-clause-asked : goal.returns-then-not-is_center-clause-asked
returns-then-not-is_center-clause-asked g c election moment device items spells =
    absurd (false≢true (sym c.if-not-is_center.true ∙ c.is_center.ensures.1 (names_center c.args.words.now election moment device items spells)))

pub returns-in-Err-OutOfMemory-clause-asked : goal.returns-in-Err-OutOfMemory-clause-asked
returns-in-Err-OutOfMemory-clause-asked g c election moment device items spells =
    asks-nothing c.questions_asked.ensures g.I.Inputs election items c.args.inputs.now

pub returns-in-Err-Usage-clause-asked : goal.returns-in-Err-Usage-clause-asked
returns-in-Err-Usage-clause-asked g c election moment device items spells =
    let Parsed : UsageFault → Type 0 = λ fault. Parses c.args.words.now (Err fault) in
    let none : NoCommand c.args.words.now = subst Parsed c.in-Err-Usage.field-0-is c.in-Err-Usage.ensures in
    absurd (none (Center election moment device items) spells)

pub returns-in-Ok-Center-clause-asked : goal.returns-in-Ok-Center-clause-asked
returns-in-Ok-Center-clause-asked g c election moment device items spells =
    let own : c.in-Ok-Center.field-0 ≡ Center c.in-Ok-Center.election c.in-Ok-Center.moment c.in-Ok-Center.device c.in-Ok-Center.items = c.in-Ok-Center.field-0-is in
    let law : c.in-Ok-Center.field-0 ≡ Center election moment device items = c.words_spell_one_command.ensures c.args.words.now c.in-Ok-Center.field-0 (Center election moment device items) c.in-Ok-Center.ensures spells in
    rw c.status_of.ensures.answer
    (asks-of c.as_str.result.now c.as_slice.result.now
    c.in-Ok-Center.election c.in-Ok-Center.moment c.in-Ok-Center.device c.in-Ok-Center.items election moment device items
    c.as_str.ensures c.as_slice.ensures (sym own ∙ law) g.I.Inputs _ _ _ c.center-done.ensures.asked)

pub returns-in-Err-OutOfMemory-clause-usage : goal.returns-in-Err-OutOfMemory-clause-usage
unfolding is_usage
returns-in-Err-OutOfMemory-clause-usage g c =
    let Parsed : UsageFault → Type 0 = λ fault. Parses c.args.words.now (Err fault) in
    let spelled : (command : Command) × Spells c.args.words.now command = subst Parsed c.in-Err-OutOfMemory.field-0-is c.in-Err-OutOfMemory.ensures in
    let named = c.is_center.ensures.0 c.if-not-is_center.false in
    (λ is. absurd (false≢true (ap is_usage is)), λ none. absurd (no_other c.args.words.now spelled.0 named spelled.1 none))

pub returns-in-Err-OutOfMemory-clause-done : goal.returns-in-Err-OutOfMemory-clause-done
returns-in-Err-OutOfMemory-clause-done g c files told election moment device items spells records held =
    c.centers_may_not_begin.ensures election moment device items files records (g.S.Sink.taken c.args.out.now) (g.K.Keeper.held c.args.keeper.now)

pub returns-in-Err-Usage-clause-usage : goal.returns-in-Err-Usage-clause-usage
returns-in-Err-Usage-clause-usage g c =
    let Parsed : UsageFault → Type 0 = λ fault. Parses c.args.words.now (Err fault) in
    let none : NoCommand c.args.words.now = subst Parsed c.in-Err-Usage.field-0-is c.in-Err-Usage.ensures in
    (λ is election moment device items spells. none (Center election moment device items) spells, λ all. refl)

pub returns-in-Err-Usage-clause-done : goal.returns-in-Err-Usage-clause-done
returns-in-Err-Usage-clause-done g c files told election moment device items spells records held =
    let Parsed : UsageFault → Type 0 = λ fault. Parses c.args.words.now (Err fault) in
    let none : NoCommand c.args.words.now = subst Parsed c.in-Err-Usage.field-0-is c.in-Err-Usage.ensures in
    absurd (none (Center election moment device items) spells)

pub returns-in-Ok-Center-clause-done : goal.returns-in-Ok-Center-clause-done
returns-in-Ok-Center-clause-done g c files told election moment device items spells records held =
    let own : c.in-Ok-Center.field-0 ≡ Center c.in-Ok-Center.election c.in-Ok-Center.moment c.in-Ok-Center.device c.in-Ok-Center.items = c.in-Ok-Center.field-0-is in
    let law : c.in-Ok-Center.field-0 ≡ Center election moment device items = c.words_spell_one_command.ensures c.args.words.now c.in-Ok-Center.field-0 (Center election moment device items) c.in-Ok-Center.ensures spells in
    rw c.status_of.ensures.answer
    (centers-of c.as_str.result.now c.as_str-in-Ok-Center.result.now c.as_str-in-Ok-Center-2.result.now c.as_slice.result.now
    c.in-Ok-Center.election c.in-Ok-Center.moment c.in-Ok-Center.device c.in-Ok-Center.items election moment device items
    c.as_str.ensures c.as_str-in-Ok-Center.ensures c.as_str-in-Ok-Center-2.ensures c.as_slice.ensures (sym own ∙ law)
    files records _ _ _ _ _ (c.center-done.ensures.done files told records held))
