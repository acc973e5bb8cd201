use Rattle.std.proofs.Common.{◌≡◌, ◌<◌, ℕ, true, Some, is_some, slice_get, string_bytes}
use Rattle.names.specs.Names.{value_of}
use Rattle.namespaces.specs.Declaring.{SameUnder}
use Rattle.namespaces.proofs.Tables.{Entry}
use Rattle.namespaces.proofs.declaring.make_places.Given as goal

-- the names so far have places
abbrev pub invariant-loop-name : goal.invariant-loop-name
invariant-loop-name l = record {
  same : SameUnder l.fn.table.entries l.table.entries;
  there : (k : ℕ) (e : Entry) → k < l.name-index → slice_get l.name-items k ≡ Some e → is_some (value_of (string_bytes e.0) l.table.entries) ≡ true;
}
