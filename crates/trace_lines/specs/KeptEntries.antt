-- How entries are kept, whose texts stand one behind the other in one. No public clause cites this module.
use Rattle.std.specs.Prelude.{◌≡◌, ℕ, zero, suc, Bool, true, false, List, Option, None, Some, slice_get}
use Rattle.tuple_text.specs.Grammar.{IsHead}
use Rattle.tuple_text.specs.Tuples.{fact_of}
use Rattle.version_chains.specs.Texts.{IsSpan, set_in}
use Rattle.version_chains.specs.declared.texts.Span.{Span}
use Rattle.zookie.specs.Tokens.{Token}
use Rattle.zookie.specs.declared.token.TokenKind.TheVariants as kinds
use Rattle.trace_lines.specs.Recorded.{Recorded}
use Rattle.trace_lines.specs.declared.entries.KeptEntry.{KeptEntry}
use Rattle.trace_lines.specs.declared.entries.ZookieShape.{ZookieShape}
use Rattle.trace_lines.specs.declared.entries.ZookieShape.TheVariants.{Absent, First, Write, Version, Read}

-- the number of the entry at a place, which counts from 1; 0 is no place
abbrev pub number_at : ℕ → Option ℕ
number_at zero = None
number_at (suc n) = Some n

-- the zookie of this shape that carries a timestamp
abbrev pub zookie_in : ZookieShape → ℕ → Option Token
zookie_in Absent at = None
zookie_in First at = Some (record { kind = None; at = at })
zookie_in Write at = Some (record { kind = Some kinds.AclWrite; at = at })
zookie_in Version at = Some (record { kind = Some kinds.ContentVersion; at = at })
zookie_in Read at = Some (record { kind = Some kinds.ReadSnapshot; at = at })

-- where a label stands: as a userset of one part
abbrev pub piece : ℕ → ℕ → Span
piece at len = record { at = at; namespace_len = len; id_len = 0; relation_len = 0 }

abbrev pub piece_in : List ℕ → ℕ → ℕ → List ℕ
piece_in text at len = (set_in text (piece at len)).namespace

abbrev pub label_in : List ℕ → Bool → ℕ → ℕ → Option (List ℕ)
label_in text true at len = Some (piece_in text at len)
label_in text false at len = None

abbrev pub recorded_in : List ℕ → KeptEntry → Recorded
recorded_in text k = record {
  entry = record {
    kind = k.kind;
    line = k.line;
    goal = fact_of (set_in text k.goal) k.user;
    snapshot = k.snapshot;
    reply = k.reply;
    zookie = zookie_in k.zookie k.zookie_at;
    version = label_in text k.has_label k.label_at k.label_len;
    before = k.before;
  };
  content = number_at k.content;
}

-- the parts of the goal are texts, and in form; so is the label, where there is one
pub record IsEntryIn (text : List ℕ) (k : KeptEntry) : Type 0 where
  pub goal : IsSpan text k.goal
  pub head : IsHead (set_in text k.goal)
  pub label : k.has_label ≡ true → IsSpan text (piece k.label_at k.label_len)

abbrev pub AreEntriesIn : List ℕ → List KeptEntry → Type 0
AreEntriesIn text ks = (i : ℕ) (k : KeptEntry) → slice_get ks i ≡ Some k → IsEntryIn text k
