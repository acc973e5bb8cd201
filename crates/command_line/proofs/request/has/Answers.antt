use Rattle.std.proofs.Common.{◌∙◌}
use Rattle.clap.specs.Words.{found_of}
use Rattle.clap.proofs.WalkLemmas.{one_text-rows}
use Rattle.command_line.proofs.Numbers.{flag_given}
use Rattle.command_line.proofs.Whole.{flag_whole}
use Rattle.command_line.proofs.request.has.Goals as goal

pub returns-clause-whole : goal.returns-clause-whole
returns-clause-whole c =
    let same = one_text-rows (found_of c.args.matches.now) c.args.id.now in
    flag_whole _ c.get_flag.result (λ e. c.get_flag.ensures.value (same ∙ e)) (λ e. c.get_flag.ensures.other (same ∙ e))

pub returns-clause-given : goal.returns-clause-given
returns-clause-given c =
    let same = one_text-rows (found_of c.args.matches.now) c.args.id.now in
    flag_given _ c.get_flag.result (λ e. c.get_flag.ensures.value (same ∙ e)) (λ e. c.get_flag.ensures.other (same ∙ e))
