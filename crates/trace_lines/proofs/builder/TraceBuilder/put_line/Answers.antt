use Rattle.trace_lines.specs.LineValues.{commits, declares, records}
use Rattle.trace_lines.proofs.RisingLines.{put_further}
use Rattle.trace_lines.proofs.builder.TraceBuilder.put_line.Goals as goal

pub returns-in-Declares-clause-further : goal.returns-in-Declares-clause-further
returns-in-Declares-clause-further c =
    put_further c.args.number c.args.self.now c.put_declaration.new.self (declares c.deref.result.now) c.put_declaration.result c.requires c.put_declaration.ensures

pub returns-in-Commits-clause-further : goal.returns-in-Commits-clause-further
returns-in-Commits-clause-further c =
    put_further c.args.number c.args.self.now c.put_commit.new.self
    (commits c.in-Commits.commit) c.put_commit.result c.requires c.put_commit.ensures

pub returns-in-Records-clause-further : goal.returns-in-Records-clause-further
returns-in-Records-clause-further c =
    put_further c.args.number c.args.self.now c.put_entry.new.self
    (records c.in-Records.entry) c.put_entry.result c.requires c.put_entry.ensures
