-- The bytes of a trace that is cut by object.
use Rattle.std.specs.Prelude.{◌≡◌, ℕ, ◌&&◌, ◌||◌, not, Bool, false, List, [], map, Option, None, Some, option_and_then, Result, Ok, Err, codes, bytes_eq, if◌then◌else◌}
use Rattle.std.specs.Str.{is_utf8}
use Rattle.serde_json.specs.Data.{Data}
use Rattle.serde_json.specs.Find.{get, as_str}
use Rattle.serde_json.specs.Read.{read}
use Rattle.refusals.specs.Refusals.{◌>>=◌}
use Rattle.json_lines.specs.Fields.{text_at}
use Rattle.json_lines.specs.Reading.{parts}
use Rattle.tuple_text.specs.Tuples.{FactValue}
use Rattle.trace_lines.specs.Causes.{needed}
use Rattle.trace_lines.specs.Texts.{goal_of}
use Rattle.trace_lines.specs.declared.cause.Cause.{Cause}

-- a content check or a check
abbrev pub is_entry_kind : Option (List ℕ) → Bool
is_entry_kind None = false
is_entry_kind (Some kind) = bytes_eq kind (codes "content") || bytes_eq kind (codes "check")

-- the goal that a value has, as an entry has it
abbrev pub goal_at : Data → Result FactValue Cause
goal_at d = needed (text_at (codes "goal") d) >>= goal_of

-- the goal asks of none of these objects
abbrev pub is_elsewhere : (List ℕ → List ℕ → Bool) → Result FactValue Cause → Bool
is_elsewhere objects (Ok goal) = not (objects goal.set.namespace goal.set.id)
is_elsewhere objects (Err c) = false

-- the value is that of an entry of another object
abbrev pub is_of_others : (List ℕ → List ℕ → Bool) → Option Data → Bool
is_of_others objects None = false
is_of_others objects (Some d) = is_entry_kind (option_and_then as_str (get (codes "kind") d)) && is_elsewhere objects
    (goal_at d)

-- a line of a trace, blank where it is an entry of another object
abbrev pub line_of_part : (List ℕ → List ℕ → Bool) → List ℕ → List ℕ
line_of_part objects line = if is_utf8 line && is_of_others objects (read line) then [] else line

-- bytes that have the same lines, but for those of entries of other objects, which are blank
abbrev pub IsPartOfBytes : (List ℕ → List ℕ → Bool) → (part bytes : List ℕ) → Type 0
IsPartOfBytes objects part bytes = parts part ≡ map (line_of_part objects) (parts bytes)
