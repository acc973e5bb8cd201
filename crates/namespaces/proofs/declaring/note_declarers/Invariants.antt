use Rattle.std.proofs.Common.{◌≡◌, ◌<◌, ◌%◌, ℕ, List, true, Some, is_some, slice_get, string_bytes, ◌⊎◌}
use Rattle.std.specs.Prelude.{Contains}
use Rattle.names.specs.Names.{value_of}
use Rattle.namespaces.specs.Declaring.{HasUnder}
use Rattle.namespaces.specs.Lookup.{relation_names}
use Rattle.namespaces.specs.Shown.{show_relations}
use Rattle.namespaces.proofs.Tables.{Entry}
use Rattle.namespaces.proofs.declaring.note_declarers.Given as goal

-- the number is under the names so far
abbrev pub invariant-loop-name : goal.invariant-loop-name
invariant-loop-name l = record {
  has : (k : ℕ) (e : Entry) → k < l.name-index → slice_get l.name-items k ≡ Some e → HasUnder l.table.entries (string_bytes e.0) l.number;
  kept : (q : List ℕ) (n : ℕ) → HasUnder l.fn.table.entries q n → HasUnder l.table.entries q n;
  only : (q : List ℕ) (n : ℕ) → HasUnder l.table.entries q n
      → HasUnder l.fn.table.entries q n ⊎ (Contains (relation_names (show_relations l.relations.entries)) q × (n % 256 ≡ l.number % 256));
  there : (q : List ℕ) → is_some (value_of q l.fn.table.entries) ≡ true → is_some (value_of q l.table.entries) ≡ true;
}
