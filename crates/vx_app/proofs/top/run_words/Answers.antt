use Rattle.std.proofs.Common.{◌≡◌, ◌∙◌, Bool, true, Some, Err, false, ap, is_ok, refl, sym, subst}
use Rattle.std.proofs.lemmas.Bool.{false≢true}
use Rattle.vx_command.specs.Acts.{Answer}
use Rattle.vx_command.specs.Asking.{Asks}
use Rattle.vx_command.specs.Devices.{writes_nothing}
use Rattle.vx_command.specs.Done.{IsDone}
use Rattle.vx_command.specs.declared.status.Status.{Status}
use Rattle.vx_command.specs.declared.status.Status.TheVariants.{Usage}
use Rattle.vx_words.specs.declared.command.Command.{Command}
use Rattle.vx_words.specs.declared.fault.UsageFault.{UsageFault}
use Rattle.vx_words.specs.Words.{NoCommand, Parses, Spells}
use Rattle.vx_app.specs.Outcome.{appends, inputs_of, outcome_of, takes_first, uses_keeper}
use Rattle.vx_app.proofs.Named.{is_center, is_other}
use Rattle.vx_app.proofs.top.run_words.Goals as goal

-- the one status of words that are no command
is_usage : Status → Bool
is_usage Usage = true
is_usage other = false

pub returns-then-is_center-clause-usage : goal.returns-then-is_center-clause-usage
returns-then-is_center-clause-usage g c =
    let named = c.is_center.ensures.0 c.if-is_center.true in
    (λ is command spells. false≢true (sym (is_center c.args.words.now command named spells.spells) ∙ spells.is_run), λ none. refl)

pub returns-then-is_center-clause-done : goal.returns-then-is_center-clause-done
returns-then-is_center-clause-done g c files told command spells records kept =
    let named = c.is_center.ensures.0 c.if-is_center.true in
    absurd (false≢true (sym (is_center c.args.words.now command named spells.spells) ∙ spells.is_run))

pub returns-then-is_center-clause-asked : goal.returns-then-is_center-clause-asked
returns-then-is_center-clause-asked g c command spells =
    let named = c.is_center.ensures.0 c.if-is_center.true in
    absurd (false≢true (sym (is_center c.args.words.now command named spells.spells) ∙ spells.is_run))

pub returns-in-Err-OutOfMemory-clause-usage : goal.returns-in-Err-OutOfMemory-clause-usage
unfolding is_usage
returns-in-Err-OutOfMemory-clause-usage g c =
    let Parsed : UsageFault → Type 0 = λ fault. Parses c.args.words.now (Err fault) in
    let spelled : (command : Command) × Spells c.args.words.now command = subst Parsed c.in-Err-OutOfMemory.field-0-is c.in-Err-OutOfMemory.ensures in
    let runs = is_other c.args.words.now spelled.0 (λ named. false≢true (sym c.if-is_center.false ∙ c.is_center.ensures.1 named)) spelled.1 in
    (λ is. absurd (false≢true (ap is_usage is)), λ none. absurd (none spelled.0 (record { spells = spelled.1; is_run = runs })))

pub returns-in-Err-Usage-clause-usage : goal.returns-in-Err-Usage-clause-usage
returns-in-Err-Usage-clause-usage g c =
    let Parsed : UsageFault → Type 0 = λ fault. Parses c.args.words.now (Err fault) in
    let none : NoCommand c.args.words.now = subst Parsed c.in-Err-Usage.field-0-is c.in-Err-Usage.ensures in
    (λ is command spells. none command spells.spells, λ all. refl)

pub returns-in-Err-Usage-clause-done : goal.returns-in-Err-Usage-clause-done
returns-in-Err-Usage-clause-done g c files told command spells records kept =
    let Parsed : UsageFault → Type 0 = λ fault. Parses c.args.words.now (Err fault) in
    let none : NoCommand c.args.words.now = subst Parsed c.in-Err-Usage.field-0-is c.in-Err-Usage.ensures in
    absurd (none command spells.spells)

pub returns-in-Err-Usage-clause-asked : goal.returns-in-Err-Usage-clause-asked
returns-in-Err-Usage-clause-asked g c command spells =
    let Parsed : UsageFault → Type 0 = λ fault. Parses c.args.words.now (Err fault) in
    let none : NoCommand c.args.words.now = subst Parsed c.in-Err-Usage.field-0-is c.in-Err-Usage.ensures in
    absurd (none command spells.spells)

pub returns-in-Ok-clause-asked : goal.returns-in-Ok-clause-asked
returns-in-Ok-clause-asked g c command spells =
    let Asked : Command → Type 0 = λ it. Asks g.I.Inputs (inputs_of it) c.args.inputs.now c.obey-done.new.inputs (is_ok c.obey-done.result) in
    rw c.status_of.ensures.answer
    (subst Asked (c.words_spell_one_command.ensures c.args.words.now c.in-Ok.command command c.in-Ok.ensures spells.spells) c.obey-done.ensures.asked)

pub returns-in-Ok-clause-done : goal.returns-in-Ok-clause-done
returns-in-Ok-clause-done g c files told command spells records kept =
    let Does : Command → Type 0 = λ it. (uses_keeper it ≡ true → g.K.Keeper.held c.args.keeper.now ≡ Some records) → IsDone (outcome_of it files records) (g.S.Sink.taken c.args.out.now) (g.S.Sink.taken c.obey-done.new.out) (g.K.Keeper.held c.args.keeper.now) (g.K.Keeper.held c.obey-done.new.keeper) c.obey-done.result in
    rw c.status_of.ensures.answer
    (subst Does (c.words_spell_one_command.ensures c.args.words.now c.in-Ok.command command c.in-Ok.ensures spells.spells) (c.obey-done.ensures.done files told records) kept)

pub returns-in-Ok-clause-nothing_written : goal.returns-in-Ok-clause-nothing_written
returns-in-Ok-clause-nothing_written g c command spells before =
    let Answered : Answer → Type 0 = λ answer. writes_nothing (takes_first command) answer ≡ true in
    let Before : Command → Type 0 = λ it. writes_nothing (takes_first it) c.obey-done.result ≡ true in
    c.obey-done.ensures.nothing_written
    (subst Before (sym (c.words_spell_one_command.ensures c.args.words.now c.in-Ok.command command c.in-Ok.ensures spells.spells)) (subst Answered c.status_of.ensures.answer before))

pub returns-in-Ok-clause-keeper_held : goal.returns-in-Ok-clause-keeper_held
returns-in-Ok-clause-keeper_held g c command spells still =
    let Still : Command → Type 0 = λ it. appends it ≡ false in
    c.obey-done.ensures.keeper_held (subst Still (sym (c.words_spell_one_command.ensures c.args.words.now c.in-Ok.command command c.in-Ok.ensures spells.spells)) still)
