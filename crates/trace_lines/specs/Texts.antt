-- The texts in a line of a trace.
use Rattle.std.specs.Prelude.{ℕ, ◌&&◌, Bool, true, false, is_some, is_none, List, [], ◌∷◌, length, nat_le, Option, None, Some, option_and_then, Result, Ok, Err, codes, if◌then◌else◌}
use Rattle.serde_json.specs.Data.{Data, Items, no_items, item}
use Rattle.serde_json.specs.Find.{get, as_str}
use Rattle.tuple_text.specs.Tuples.{TupleValue, FactValue}
use Rattle.tuple_text.specs.Reading.{tuple_at, fact_at}
use Rattle.zookie.specs.Tokens.{Token}
use Rattle.zookie.specs.Reading.{token_at}
use Rattle.json_lines.specs.Fields.{optional_text_of}
use Rattle.refusals.specs.Refusals.{◌>>=◌}
use Rattle.trace_lines.specs.Causes.{needed, text_cause, token_cause}
use Rattle.trace_lines.specs.declared.cause.Cause.{Cause}
use Rattle.trace_lines.specs.declared.entry.EntryKind.{EntryKind}
use Rattle.trace_lines.specs.declared.entry.EntryKind.TheVariants.{Check, Content}

abbrev pub tuple_of_text : Option (List ℕ) → Result TupleValue Cause
tuple_of_text text = needed text >>= λ t. text_cause (tuple_at t)

-- the tuples of a list of texts
abbrev pub tuples_of : Items → Result (List TupleValue) Cause
tuples_of no_items = Ok []
tuples_of (item d ds) = tuple_of_text (as_str d) >>= λ t. tuples_of ds >>= λ ts. Ok (t ∷ ts)

abbrev pub goal_of : List ℕ → Result FactValue Cause
goal_of text = text_cause (fact_at text)

abbrev pub some_token : Result Token Cause → Result (Option Token) Cause
some_token (Ok t) = Ok (Some t)
some_token (Err e) = Err e

abbrev pub token_of : Option (List ℕ) → Result (Option Token) Cause
token_of None = Ok None
token_of (Some text) = some_token (token_cause (token_at text))

-- a label of a version has 1 to 128 bytes
abbrev pub is_label : List ℕ → Bool
is_label text = nat_le 1 (length text) && nat_le (length text) 128

abbrev pub label_or_none : Option (List ℕ) → Option (Option (List ℕ))
label_or_none None = Some None
label_or_none (Some text) = if is_label text then Some (Some text) else None

unfoldable pub label_in : Option Data → Option (Option (List ℕ))
label_in field = option_and_then label_or_none (optional_text_of field)

-- a content check issues a version exactly where its reply is true
abbrev pub fits_reply : EntryKind → Bool → Option (List ℕ) → Bool
fits_reply Check reply label = true
fits_reply Content true label = is_some label
fits_reply Content false label = is_none label

abbrev pub if_fits : EntryKind → Bool → Option (List ℕ) → Option (Option (List ℕ))
if_fits kind reply label = if fits_reply kind reply label then Some label else None

unfoldable pub version_in : EntryKind → Bool → Option Data → Option (Option (List ℕ))
version_in kind reply field = option_and_then (if_fits kind reply) (label_in field)

-- the label in a line of this kind with this reply
abbrev pub version_at : EntryKind → Bool → Data → Option (Option (List ℕ))
version_at kind reply d = version_in kind reply (get (codes "version") d)
