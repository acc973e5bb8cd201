use Rattle.std.proofs.Common.{sym, subst}
use Rattle.std.specs.List.{AllZip}
use Rattle.command_line.specs.Commands.{IsArg, audit_rules}
use Rattle.command_line.proofs.commands.audit.Goals as goal

pub returns : goal.returns
returns c named made =
    c.command.ensures audit_rules (subst (AllZip IsArg audit_rules) (sym c.in_ok-args.ensures.items)
    (c.trace.ensures, (named, (made, (c.number.ensures, (c.number-2.ensures, (c.flag.ensures, tt)))))))
