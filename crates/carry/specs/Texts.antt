-- The text of a carry.
use Rattle.std.specs.Prelude.{ℕ, ◌<◌, ◌^◌, ◌++◌, IsUtf8, List, length, codes}
use Rattle.std.specs.List.{AllByRecursion}
use Rattle.hex.specs.Hex.{encode_lower}
use Rattle.sha2.specs.Sha256.{sha256}
use Rattle.tuple_text.specs.Grammar.{IsFact, IsTuple, fact_text, tuple_text}
use Rattle.tuple_text.specs.Tuples.{FactValue, TupleValue}
use Rattle.zookie.specs.Tokens.{Token, token_text}
use Rattle.version_chains.specs.Commits.{Commit}
use Rattle.carry.specs.Fields.{IfThere, counted_text, flag_text, number_line, optional_text, text_line}
use Rattle.carry.specs.Values.{CarryValue, CheckValue, ItemValue, SaidValue, declares, commits, records}
use Rattle.carry.specs.declared.value.CheckKind.{CheckKind}
use Rattle.carry.specs.declared.value.CheckKind.TheVariants.{Check, Content}

abbrev pub tuple_line : TupleValue → List ℕ
tuple_line t = text_line (tuple_text t)

abbrev pub fact_line : FactValue → List ℕ
fact_line f = text_line (fact_text f)

abbrev pub zookie_line : Token → List ℕ
zookie_line z = text_line (token_text z)

-- `yes` or `no`, and a line for each of the goal, the snapshot, the zookie and the version
abbrev pub check_text : CheckValue → List ℕ
check_text e =
    flag_text (codes "yes\n") (codes "no\n") e.reply
    ++ ((codes "goal " ++ fact_line e.goal)
    ++ ((codes "snapshot " ++ number_line e.snapshot)
    ++ (optional_text (codes "no zookie\n") (codes "zookie ") zookie_line e.zookie
    ++ optional_text (codes "no version\n") (codes "version ") text_line e.version)))

-- the timestamp, and the tuples added and removed, each on a line
abbrev pub commit_text : Commit → List ℕ
commit_text c =
    (codes "at " ++ number_line c.at)
    ++ ((codes "adds " ++ counted_text tuple_line c.adds)
    ++ (codes "removes " ++ counted_text tuple_line c.removes))

abbrev pub kind_word : CheckKind → List ℕ
kind_word Check = codes "check "
kind_word Content = codes "content "

abbrev pub head_word : SaidValue → List ℕ
head_word (declares t) = codes "declaration "
head_word (commits c) = codes "commit "
head_word (records e) = kind_word e.kind

abbrev pub said_text : SaidValue → List ℕ
said_text (declares t) = text_line t
said_text (commits c) = commit_text c
said_text (records e) = check_text e

-- what it is, with its line number, and what it says
abbrev pub item_text : ItemValue → List ℕ
item_text i = head_word i.said ++ (number_line i.line ++ said_text i.said)

-- from where on the log is known: a line for the base, and one for the line of the first version
abbrev pub known_text : ℕ → ℕ → List ℕ
known_text base versions = (codes "base " ++ number_line base) ++ (codes "versions " ++ number_line versions)

-- what stands between the first line and the last
abbrev pub body_text : CarryValue → List ℕ
body_text c =
    (codes "lines " ++ number_line c.lines)
    ++ (known_text c.base c.versions
    ++ (optional_text (codes "no carry before\n") (codes "before ") text_line c.before
    ++ (codes "items " ++ counted_text item_text c.items)))

-- the first line names the format and its version
abbrev pub first_line : List ℕ
first_line = codes "new_enemy carry 1\n"

-- the last line, of all that stands before it: its SHA-256
unfoldable pub seal : List ℕ → List ℕ
seal text = codes "sha256 " ++ (encode_lower (sha256 text) ++ codes "\n")

abbrev pub unsealed : CarryValue → List ℕ
unsealed c = first_line ++ body_text c

abbrev pub carry_text : CarryValue → List ℕ
carry_text c = unsealed c ++ seal (unsealed c)

-- ---- what has a text

pub record IsCheck (e : CheckValue) : Type 0 where
  pub goal : IsFact e.goal
  pub snapshot : e.snapshot < 2 ^ 64
  pub zookie : IfThere (λ z. z.at < 2 ^ 64) e.zookie
  pub version : IfThere (λ t. length t < 2 ^ 64) e.version

pub record IsCommit (c : Commit) : Type 0 where
  pub at : c.at < 2 ^ 64
  pub adds : (length c.adds < 2 ^ 64) × AllByRecursion IsTuple c.adds
  pub removes : (length c.removes < 2 ^ 64) × AllByRecursion IsTuple c.removes

abbrev pub IsSaid : SaidValue → Type 0
IsSaid (declares t) = length t < 2 ^ 64
IsSaid (commits c) = IsCommit c
IsSaid (records e) = IsCheck e

abbrev pub IsItem : ItemValue → Type 0
IsItem i = (i.line < 2 ^ 64) × IsSaid i.said

-- numbers fit 64 bits, and tuples and facts are in form
pub record IsInForm (c : CarryValue) : Type 0 where
  pub lines : c.lines < 2 ^ 64
  pub base : c.base < 2 ^ 64
  pub versions : c.versions < 2 ^ 64
  pub before : IfThere (λ t. length t < 2 ^ 64) c.before
  pub items : (length c.items < 2 ^ 64) × AllByRecursion IsItem c.items

-- and the texts are UTF-8
pub record IsCarry (c : CarryValue) : Type 0 where
  pub form : IsInForm c
  pub utf8 : IsUtf8 (body_text c)
