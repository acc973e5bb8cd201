use Rattle.std.proofs.Common.{sym, subst}
use Rattle.std.specs.List.{AllZip}
use Rattle.command_line.specs.Commands.{IsArg, follow_rules}
use Rattle.command_line.proofs.commands.follow.Goals as goal

pub returns : goal.returns
returns c oldest versions =
    c.command.ensures follow_rules (subst (AllZip IsArg follow_rules) (sym c.in_ok-args.ensures.items)
    (c.followed.ensures, (c.flag-heartbeat.ensures, (c.path-from.ensures, (c.path-carry.ensures, (oldest, (versions, tt)))))))
