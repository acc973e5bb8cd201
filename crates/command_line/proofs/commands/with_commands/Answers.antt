use Rattle.std.proofs.Common.{List, [], ◌∷◌, sym, subst}
use Rattle.std.proofs.lemmas.Result.{IfOk-weaker}
use Rattle.std.specs.List.{AllZip}
use Rattle.clap.specs.Words.{App}
use Rattle.command_line.specs.Commands.{IsCommand, audit, make, history, follow}
use Rattle.command_line.proofs.Chains.{subcommands_added}
use Rattle.command_line.proofs.commands.with_commands.Goals as goal

pub returns : goal.returns
returns c audits follows =
    let apps : List App = audit ∷ make ∷ history ∷ follow ∷ [] in
    let all = subst (AllZip IsCommand apps) (sym c.in_ok-commands.ensures.items) (audits, (c.in_ok-make.ensures, (c.in_ok-history.ensures, (follows, tt)))) in
    IfOk-weaker c.subcommands.result _ _ (λ m h. subcommands_added c.in_ok-bare.field-0 m _ apps c.in_ok-commands.commands.items h c.in_ok-bare.ensures all) c.subcommands.ensures
