-- Marks of versions, by which they are found.
use Rattle.std.specs.Prelude.{ℕ}
use Rattle.marks.specs.Marks.{set_mark}
use Rattle.trace_lines.specs.Versions.{Version}

-- The mark of the userset that has the label for its relation. Equal versions have equal marks, and no more is used.
abbrev pub version_mark : Version → ℕ
version_mark v = set_mark (record { namespace = v.namespace; id = v.id; relation = v.label })
