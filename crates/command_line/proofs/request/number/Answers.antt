use Rattle.std.proofs.Common.{◌∙◌, Some, None}
use Rattle.std.specs.Str.Parse.{ParsesUnsigned, ExplainsUnsignedError, HasUnsignedDigitsIfOk}
use Rattle.clap.specs.Words.{found_of, rows_of}
use Rattle.clap.proofs.WalkLemmas.{one_text-rows}
use Rattle.command_line.proofs.Numbers.{number_given, option_in}
use Rattle.command_line.proofs.Whole.{number_whole}
use Rattle.command_line.proofs.request.number.Goals as goal

pub returns-clause-whole : goal.returns-clause-whole
returns-clause-whole c n e =
    let same = one_text-rows (found_of c.args.matches.now) c.args.id.now in
    number_whole _ (λ bs r. ParsesUnsigned 64 10 bs r × ExplainsUnsignedError 10 bs r × HasUnsignedDigitsIfOk bs r) (rows_of (found_of c.args.matches.now)) c.args.id.now c.get_one.result
    (λ t e. c.get_one.ensures.value t (same ∙ e)) (λ t x g. g.0) n e

pub returns-clause-given : goal.returns-clause-given
returns-clause-given c =
    let same = one_text-rows (found_of c.args.matches.now) c.args.id.now in
    number_given _ (λ bs r. ParsesUnsigned 64 10 bs r × ExplainsUnsignedError 10 bs r × HasUnsignedDigitsIfOk bs r) (rows_of (found_of c.args.matches.now)) c.args.id.now c.get_one.result
    (λ e. c.get_one.ensures.none (same ∙ e)) (λ t e. c.get_one.ensures.value t (same ∙ e)) (λ t x g. g.0)

pub returns-clause-option : goal.returns-clause-option
returns-clause-option c None e =
    let same = one_text-rows (found_of c.args.matches.now) c.args.id.now in c.get_one.ensures.none (same ∙ e)
returns-clause-option c (Some n) e = returns-clause-whole c n e

pub returns-clause-option_given : goal.returns-clause-option_given
returns-clause-option_given c =
    option_in _ c.args.id.now c.get_one.result (returns-clause-given c) (returns-clause-whole c)
