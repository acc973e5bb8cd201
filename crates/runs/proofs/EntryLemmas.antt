-- Entries that say the same.
use Rattle.std.proofs.Common.{◌≡◌, ℕ, Bool, List, Option, ◌∙◌, ap}
use Rattle.tuple_text.specs.Tuples.{FactValue}
use Rattle.zookie.specs.Tokens.{Token}
use Rattle.trace_lines.specs.Values.{EntryValue}
use Rattle.trace_lines.specs.declared.entry.EntryKind.{EntryKind}
use Rattle.carry_laws.specs.Carried.{placeless}

abbrev entry : EntryKind → ℕ → FactValue → ℕ → Bool → Option Token → Option (List ℕ) → EntryValue
entry kind line goal snapshot reply zookie version = record {
  kind = kind;
  line = line;
  goal = goal;
  snapshot = snapshot;
  reply = reply;
  zookie = zookie;
  version = version;
  before = 0;
}

pub same_face : (d e : EntryValue) → d.kind ≡ e.kind → d.line ≡ e.line → d.goal ≡ e.goal → d.snapshot ≡ e.snapshot
    → d.reply ≡ e.reply → d.zookie ≡ e.zookie → d.version ≡ e.version → placeless d ≡ placeless e
same_face d e kind line goal snapshot reply zookie version =
    ap (λ (x : EntryKind). entry x d.line d.goal d.snapshot d.reply d.zookie d.version) kind
    ∙ ap (λ (x : ℕ). entry e.kind x d.goal d.snapshot d.reply d.zookie d.version) line
    ∙ ap (λ (x : FactValue). entry e.kind e.line x d.snapshot d.reply d.zookie d.version) goal
    ∙ ap (λ (x : ℕ). entry e.kind e.line e.goal x d.reply d.zookie d.version) snapshot
    ∙ ap (λ (x : Bool). entry e.kind e.line e.goal e.snapshot x d.zookie d.version) reply
    ∙ ap (λ (x : Option Token). entry e.kind e.line e.goal e.snapshot e.reply x d.version) zookie
    ∙ ap (λ (x : Option (List ℕ)). entry e.kind e.line e.goal e.snapshot e.reply e.zookie x) version
