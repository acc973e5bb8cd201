use Rattle.std.proofs.Common.{rules}
use Rattle.std.proofs.lemmas.Result.{IfOk-weaker}
use Rattle.clap.specs.Words.{new_app}
use Rattle.command_line.specs.Commands.{IsCommand}
use Rattle.command_line.proofs.Chains.{args_added}
use Rattle.command_line.proofs.commands.command.Goals as goal

pub returns : goal.returns
returns c given all =
    let start : IsCommand (new_app c.args.name.now) c.after_help.result = (search rules, search rules) in
    IfOk-weaker c.args-2.result _ _ (λ m h. args_added _ m _ given c.args.args.items h start all) c.args-2.ensures
