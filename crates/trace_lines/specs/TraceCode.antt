-- The code of a trace's value, which a model asks for.
use Rattle.std.specs.Prelude.{◌≡◌, ℕ, ◌==◌, Bool, true, false, List, Option, if◌then◌else◌, refl}
use Rattle.std.specs.Coded.{Coded, code_by, coded×, coded_ℕ, coded_bool, coded_list, coded_option}
use Rattle.tuple_text.specs.Tuples.{FactValue}
use Rattle.zookie.specs.Tokens.{Token}
use Rattle.zookie.specs.declared.token.TokenKind.{TokenKind}
use Rattle.zookie.specs.declared.token.TokenKind.TheVariants.{AclWrite, ContentVersion, ReadSnapshot}
use Rattle.namespaces.specs.DeclarationCode.{declaration_code}
use Rattle.namespaces.specs.Declaration.{Declaration}
use Rattle.version_chains.specs.Commits.{Commit}
use Rattle.snapshots.specs.Codes.{commit_code, fact_code, text_code}
use Rattle.trace_lines.specs.declared.entry.EntryKind.{EntryKind}
use Rattle.trace_lines.specs.declared.entry.EntryKind.TheVariants.{Check, Content}
use Rattle.trace_lines.specs.Values.{EntryValue, TraceValue}

abbrev kind_number : TokenKind → ℕ
kind_number AclWrite = 0
kind_number ContentVersion = 1
kind_number ReadSnapshot = 2

abbrev kind_numbered : ℕ → TokenKind
kind_numbered n = if n == 0 then AclWrite else (if n == 1 then ContentVersion else ReadSnapshot)

pub kind_numbered-kind_number : (k : TokenKind) → kind_numbered (kind_number k) ≡ k
kind_numbered-kind_number AclWrite = refl
kind_numbered-kind_number ContentVersion = refl
kind_numbered-kind_number ReadSnapshot = refl

abbrev token_code : Coded Token
token_code =
    code_by (Option TokenKind × ℕ)
    (coded× (coded_option (code_by ℕ coded_ℕ kind_number kind_numbered kind_numbered-kind_number)) coded_ℕ)
    (λ t. (t.kind, t.at)) (λ p. record { kind = p.0; at = p.1 }) (λ _. refl)

abbrev is_check : EntryKind → Bool
is_check Check = true
is_check Content = false

abbrev entry_kind : Bool → EntryKind
entry_kind true = Check
entry_kind false = Content

pub entry_kind-is_check : (k : EntryKind) → entry_kind (is_check k) ≡ k
entry_kind-is_check Check = refl
entry_kind-is_check Content = refl

abbrev entry_kind_code : Coded EntryKind
entry_kind_code = code_by Bool coded_bool is_check entry_kind entry_kind-is_check

abbrev pub entry_code : Coded EntryValue
entry_code =
    code_by (EntryKind × (ℕ × (FactValue × (ℕ × (Bool × (Option Token × (Option (List ℕ) × ℕ)))))))
    (coded× entry_kind_code (coded× coded_ℕ
    (coded× fact_code (coded× coded_ℕ
    (coded× coded_bool (coded× (coded_option token_code) (coded× (coded_option text_code) coded_ℕ)))))))
    (λ e. (e.kind, (e.line, (e.goal, (e.snapshot, (e.reply, (e.zookie, (e.version, e.before))))))))
    (λ p. record {
      kind = p.0;
      line = p.1.0;
      goal = p.1.1.0;
      snapshot = p.1.1.1.0;
      reply = p.1.1.1.1.0;
      zookie = p.1.1.1.1.1.0;
      version = p.1.1.1.1.1.1.0;
      before = p.1.1.1.1.1.1.1;
    })
    (λ _. refl)

abbrev pub trace_code : Coded TraceValue
trace_code =
    code_by (List Declaration × (List Commit × (List ℕ × List EntryValue)))
    (coded× (coded_list declaration_code)
    (coded× (coded_list commit_code) (coded× (coded_list coded_ℕ) (coded_list entry_code))))
    (λ t. (t.declarations, (t.commits, (t.commit_lines, t.entries))))
    (λ p. record { declarations = p.0; commits = p.1.0; commit_lines = p.1.1.0; entries = p.1.1.1 }) (λ _. refl)
