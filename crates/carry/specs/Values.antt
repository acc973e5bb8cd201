-- What a carry holds, without where it lies in memory.
use Rattle.std.specs.Prelude.{ℕ, Bool, List, map, Option, option_map}
use Rattle.tuple_text.specs.FactRefs.{fact_value}
use Rattle.tuple_text.specs.TupleRefs.{tuple_values}
use Rattle.tuple_text.specs.Tuples.{FactValue}
use Rattle.zookie.specs.Tokens.{Token}
use Rattle.version_chains.specs.Commits.{Commit}
use Rattle.carry.specs.declared.value.Carry.{Carry}
use Rattle.carry.specs.declared.value.CarriedCheck.{CarriedCheck}
use Rattle.carry.specs.declared.value.CarriedCommit.{CarriedCommit}
use Rattle.carry.specs.declared.value.CheckKind.{CheckKind}
use Rattle.carry.specs.declared.value.Item.{Item}
use Rattle.carry.specs.declared.value.Said.{Said}
use Rattle.carry.specs.declared.value.Said.TheVariants.{Declares, Commits, Records}

-- an entry: what it records, and what was asked and answered
pub record CheckValue : Type 0 where
  pub kind : CheckKind
  pub reply : Bool
  pub goal : FactValue
  pub snapshot : ℕ
  pub zookie : Option Token
  pub version : Option (List ℕ)

-- what a line says: the text of a declaration, a commit, or an entry
pub data SaidValue : Type 0 where
  declares : List ℕ → SaidValue
  commits : Commit → SaidValue
  records : CheckValue → SaidValue

-- a line by its number in the whole log
pub record ItemValue : Type 0 where
  pub line : ℕ
  pub said : SaidValue

-- how many lines came before, the base timestamp, the line from which on versions are carried, what tells the carry
-- before from others, and the lines that go on
pub record CarryValue : Type 0 where
  pub lines : ℕ
  pub base : ℕ
  pub versions : ℕ
  pub before : Option (List ℕ)
  pub items : List ItemValue

abbrev pub check_value : CarriedCheck → CheckValue
check_value e = record {
  kind = e.kind;
  reply = e.reply;
  goal = fact_value e.goal;
  snapshot = e.snapshot;
  zookie = e.zookie;
  version = option_map (λ s. s.now) e.version;
}

abbrev pub commit_value : CarriedCommit → Commit
commit_value c = record { at = c.at; adds = tuple_values c.adds.items; removes = tuple_values c.removes.items }

abbrev pub said_value : Said → SaidValue
said_value (Declares text) = declares text.now
said_value (Commits c) = commits (commit_value c)
said_value (Records e) = records (check_value e)

abbrev pub item_value : Item → ItemValue
item_value i = record { line = i.line; said = said_value i.said }

abbrev pub item_values : List Item → List ItemValue
item_values is = map item_value is

abbrev pub carry_value : Carry → CarryValue
carry_value c = record {
  lines = c.lines;
  base = c.base;
  versions = c.versions;
  before = option_map (λ s. s.now) c.before;
  items = item_values c.items.items;
}
