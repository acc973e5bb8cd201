-- Reading the text of a carry from left to right, up to the first field that is not in form.
use Rattle.std.specs.Prelude.{ℕ, ◌^◌, ◌==◌, ◌&&◌, Bool, List, length, Option, Some, None, Result, Ok, Err, codes, nat_lt, bytes_eq, if◌then◌else◌}
use Rattle.std.specs.Result.{result_ok}
use Rattle.refusals.specs.Refusals.{◌>>=◌}
use Rattle.tuple_text.specs.Reading.{fact_at, tuple_at}
use Rattle.tuple_text.specs.Tuples.{FactValue, TupleValue}
use Rattle.zookie.specs.Reading.{token_at}
use Rattle.zookie.specs.Tokens.{Token, token_text}
use Rattle.version_chains.specs.Commits.{Commit}
use Rattle.carry.specs.Fields.{Reader, behind, both, counted_at, flag_at, number_to, of_text, optional_at, seen, text_at, word_at, word_or}
use Rattle.carry.specs.Values.{CarryValue, CheckValue, ItemValue, SaidValue, declares, commits, records}
use Rattle.carry.specs.declared.fault.FieldFault.{FieldFault}
use Rattle.carry.specs.declared.fault.FieldFault.TheVariants.{Left}
use Rattle.carry.specs.declared.value.CheckKind.{CheckKind}
use Rattle.carry.specs.declared.value.CheckKind.TheVariants.{Check, Content}

abbrev pub tuple_in : List ℕ → Option TupleValue
tuple_in text = result_ok (tuple_at text)

abbrev pub fact_in : List ℕ → Option FactValue
fact_in text = result_ok (fact_at text)

-- a zookie that fits, in its one spelling
abbrev pub spelled_so : List ℕ → Option Token → Option Token
spelled_so text None = None
spelled_so text (Some z) = if bytes_eq (token_text z) text && nat_lt z.at (2 ^ 64) then Some z else None

abbrev pub zookie_in : List ℕ → Option Token
zookie_in text = spelled_so text (result_ok (token_at text))

unfoldable pub tuple_line_at : Reader TupleValue
tuple_line_at text = of_text tuple_in text

unfoldable pub fact_line_at : Reader FactValue
fact_line_at text = of_text fact_in text

unfoldable pub zookie_line_at : Reader Token
zookie_line_at text = of_text zookie_in text

-- ---- an entry

abbrev pub CheckFields : Type 0
CheckFields = Bool × (FactValue × (ℕ × (Option Token × Option (List ℕ))))

abbrev pub check_of : CheckKind → CheckFields → CheckValue
check_of kind p = record {
  kind = kind;
  reply = p.0;
  goal = p.1.0;
  snapshot = p.1.1.0;
  zookie = p.1.1.1.0;
  version = p.1.1.1.1;
}

unfoldable pub check_fields_at : Reader CheckFields
check_fields_at text =
    both (flag_at (codes "yes\n") (codes "no\n"))
    (both (behind (codes "goal ") fact_line_at)
    (both (behind (codes "snapshot ") (number_to 10))
    (both (optional_at (codes "no zookie\n") (codes "zookie ") zookie_line_at)
    (optional_at (codes "no version\n") (codes "version ") text_at)))) text

-- ---- a commit

abbrev pub CommitFields : Type 0
CommitFields = ℕ × (List TupleValue × List TupleValue)

abbrev pub commit_of : CommitFields → Commit
commit_of p = record { at = p.0; adds = p.1.0; removes = p.1.1 }

unfoldable pub commit_fields_at : Reader CommitFields
commit_fields_at text =
    both (behind (codes "at ") (number_to 10))
    (both (behind (codes "adds ") (counted_at tuple_line_at))
    (behind (codes "removes ") (counted_at tuple_line_at))) text

-- ---- an item

abbrev pub item_of : ℕ → SaidValue → ItemValue
item_of line said = record { line = line; said = said }

unfoldable pub declared_at : Reader ItemValue
declared_at text = seen (λ p. item_of p.0 (declares p.1)) (both (number_to 10) text_at) text

unfoldable pub committed_at : Reader ItemValue
committed_at text = seen (λ p. item_of p.0 (commits (commit_of p.1))) (both (number_to 10) commit_fields_at) text

unfoldable pub checked_at : CheckKind → Reader ItemValue
checked_at kind text = seen (λ p. item_of p.0 (records (check_of kind p.1))) (both (number_to 10) check_fields_at) text

unfoldable pub item_at : Reader ItemValue
item_at text =
    word_or (word_at (codes "declaration ") text) declared_at
    (word_or (word_at (codes "commit ") text) committed_at
    (word_or (word_at (codes "check ") text) (checked_at Check)
    (behind (codes "content ") (checked_at Content) text)))

-- ---- a carry

abbrev pub CarryFields : Type 0
CarryFields = ℕ × ((ℕ × ℕ) × (Option (List ℕ) × List ItemValue))

abbrev pub carry_of : CarryFields → CarryValue
carry_of p = record {
  lines = p.0;
  base = p.1.0.0;
  versions = p.1.0.1;
  before = p.1.1.0;
  items = p.1.1.1;
}

unfoldable pub known_at : Reader (ℕ × ℕ)
known_at text = both (behind (codes "base ") (number_to 10)) (behind (codes "versions ") (number_to 10)) text

unfoldable pub body_at : Reader CarryFields
body_at text =
    both (behind (codes "lines ") (number_to 10))
    (both known_at
    (both (optional_at (codes "no carry before\n") (codes "before ") text_at)
    (behind (codes "items ") (counted_at item_at)))) text

-- all of the text
unfoldable pub whole_body : List ℕ → Result CarryValue FieldFault
whole_body text = body_at text >>= λ c. if length c.1 == 0 then Ok (carry_of c.0) else Err (Left (length c.1))
