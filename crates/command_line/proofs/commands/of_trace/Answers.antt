use Rattle.std.proofs.Common.{List, [], ◌∷◌, codes, sym, subst}
use Rattle.std.specs.List.{AllZip}
use Rattle.clap.specs.Words.{Rule}
use Rattle.command_line.specs.Commands.{IsArg, file}
use Rattle.command_line.proofs.commands.of_trace.Goals as goal

pub returns : goal.returns
returns c rule is =
    let rules : List Rule = file (codes "TRACE") ∷ rule ∷ [] in
    c.command.ensures rules (subst (AllZip IsArg rules) (sym c.in_ok-args.ensures.items) (c.trace.ensures, (is, tt)))
