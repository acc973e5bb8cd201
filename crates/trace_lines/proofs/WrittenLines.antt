-- A check that is written plainly is JSON of which its value records what its fields say.
use Rattle.std.proofs.Common.{◌≡◌, ℕ, ◌<◌, ◌≤◌, ◌^◌, Bool, true, List, ◌∷◌, ◌++◌, Option, None, Some, Result, Ok, length, option_map, codes, Bor, refl, ap, ◌∙◌, arith}
use Rattle.json.specs.Print.{escape, escape_byte, quoted}
use Rattle.json.specs.Tree.{depth, HasNumbers}
use Rattle.json.proofs.Printed.Decimals.{IsNumber-decimal}
use Rattle.serde_json.specs.Data.{Data, boolean, number, object, string, unsigned, Members, member}
use Rattle.serde_json.specs.Find.{get, get_member}
use Rattle.serde_json.specs.Read.{max_depth, of_json, read}
use Rattle.serde_json.specs.Written.{compact_text, members_text, outline}
use Rattle.serde_json.proofs.Numbers.{number_of-decimal}
use Rattle.json_lines.specs.Fields.{optional_text_of}
use Rattle.json_lines.specs.Json.{of_json as line_of_json}
use Rattle.refusals.specs.Refusals.{◌>>=◌}
use Rattle.compact_json.proofs.Compact.{quoted_then, read_compact}
use Rattle.trace_lines.specs.LineValues.{line_of_text, line_said, records}
use Rattle.trace_lines.specs.Said.{entry_said}
use Rattle.trace_lines.specs.Texts.{fits_reply, goal_of, is_label, label_in, token_of, version_in}
use Rattle.trace_lines.specs.Traces.{entry_of}
use Rattle.trace_lines.specs.Values.{EntryValue}
use Rattle.trace_lines.specs.Written.{AreFree, ArePlain, IsCheck, IsMore, IsPlain, check_members, check_spelled, fields_text, kind_name, more_members, optional_text, put_more, said_text, with_text}
use Rattle.trace_lines.specs.declared.cause.Cause.{Cause}
use Rattle.trace_lines.specs.declared.cause.Cause.TheVariants as causes
use Rattle.trace_lines.specs.declared.checks.Said.{Said}
use Rattle.trace_lines.specs.declared.entry.EntryKind.{EntryKind}
use Rattle.trace_lines.specs.declared.entry.EntryKind.TheVariants.{Check, Content}
use Rattle.trace_lines.proofs.MoreMembers.{asked, more_are_flat, more_make, more_numbers}

-- ---- the text is that of what is written

version_text : (o : Option (List ℕ)) (rest : List ℕ) (ms : Members) → IsPlain o → rest ≡ members_text true ms
    → optional_text (codes ",\"version\":\"") o rest ≡ members_text true (with_text (codes "version") o ms)
unfolding escape_byte
version_text None rest ms plain same = same
version_text (Some t) rest ms plain same = ap (λ l. codes ",\"version\":" ++ l) (quoted_then t rest plain ∙ ap (λ r. quoted t ++ r) same)

zookie_text : (o : Option (List ℕ)) (rest : List ℕ) (ms : Members) → IsPlain o → rest ≡ members_text true ms
    → optional_text (codes ",\"zookie\":\"") o rest ≡ members_text true (with_text (codes "zookie") o ms)
unfolding escape_byte
zookie_text None rest ms plain same = same
zookie_text (Some t) rest ms plain same = ap (λ l. codes ",\"zookie\":" ++ l) (quoted_then t rest plain ∙ ap (λ r. quoted t ++ r) same)

module _ (goal : List ℕ) (snapshot : ℕ) (reply : Bool) (zookie version : Option (List ℕ)) (rest : List ℕ) (ms : Members)
    (plain : escape goal ≡ goal) (plain_zookie : IsPlain zookie) (plain_version : IsPlain version) (same : rest ≡ members_text true ms) where
  fields_written : fields_text goal snapshot reply zookie version rest
      ≡ members_text true (member (codes "goal") (string goal) (member (codes "snapshot") (number (unsigned snapshot))
      (member (codes "reply") (boolean reply) (with_text (codes "zookie") zookie (with_text (codes "version") version ms)))))
  unfolding escape_byte
  fields_written =
      ap (λ l. codes ",\"goal\":" ++ l) (quoted_then goal _ plain
      ∙ ap (λ z. quoted goal ++ (codes ",\"snapshot\":" ++ (number_then z)))
      (zookie_text zookie _ (with_text (codes "version") version ms) plain_zookie (version_text version rest ms plain_version same)))
    where
      number_then : List ℕ → List ℕ
      number_then z = compact_text (number (unsigned snapshot)) ++ (codes ",\"reply\":" ++ (compact_text (boolean reply) ++ z))

  check_text : (kind : EntryKind) → codes "{\"kind\":\"" ++ (kind_name kind ++ 34 ∷ fields_text goal snapshot reply zookie version rest)
      ≡ compact_text (object (member (codes "kind") (string (kind_name kind)) (member (codes "goal") (string goal)
      (member (codes "snapshot") (number (unsigned snapshot)) (member (codes "reply") (boolean reply)
      (with_text (codes "zookie") zookie (with_text (codes "version") version ms)))))))
  unfolding escape_byte
  check_text Check = ap (λ l. codes "{\"kind\":\"check\"" ++ l) fields_written
  check_text Content = ap (λ l. codes "{\"kind\":\"content\"" ++ l) fields_written

-- ---- which is read as its value

module _ (kind : EntryKind) (goal : List ℕ) (snapshot : ℕ) (reply : Bool) (more : List (List ℕ × List ℕ)) where
  abbrev value : Option (List ℕ) → Option (List ℕ) → Data
  value zookie version = object (put_more more (check_members kind goal snapshot reply zookie version))

  numbers : (zookie version : Option (List ℕ)) → snapshot < 2 ^ 64 → HasNumbers (outline (check_spelled kind goal snapshot reply zookie version more))
  numbers None None fits = (tt, (tt, (IsNumber-decimal snapshot fits, (tt, more_numbers more))))
  numbers None (Some v) fits = (tt, (tt, (IsNumber-decimal snapshot fits, (tt, (tt, more_numbers more)))))
  numbers (Some z) None fits = (tt, (tt, (IsNumber-decimal snapshot fits, (tt, (tt, more_numbers more)))))
  numbers (Some z) (Some v) fits = (tt, (tt, (IsNumber-decimal snapshot fits, (tt, (tt, (tt, more_numbers more))))))

  shallow : (zookie version : Option (List ℕ)) → depth (outline (check_spelled kind goal snapshot reply zookie version more)) ≤ max_depth
  shallow None None = omega (arith, more_are_flat more)
  shallow None (Some v) = omega (arith, more_are_flat more)
  shallow (Some z) None = omega (arith, more_are_flat more)
  shallow (Some z) (Some v) = omega (arith, more_are_flat more)

  makes : (zookie version : Option (List ℕ)) → snapshot < 2 ^ 64
      → of_json (outline (check_spelled kind goal snapshot reply zookie version more)) ≡ Some (value zookie version)
  makes None None fits = rw (number_of-decimal snapshot fits) (ap (option_map object) (more_make more (check_members kind goal snapshot reply None None)))
  makes None (Some v) fits = rw (number_of-decimal snapshot fits) (ap (option_map object) (more_make more (check_members kind goal snapshot reply None (Some v))))
  makes (Some z) None fits = rw (number_of-decimal snapshot fits) (ap (option_map object) (more_make more (check_members kind goal snapshot reply (Some z) None)))
  makes (Some z) (Some v) fits = rw (number_of-decimal snapshot fits) (ap (option_map object) (more_make more (check_members kind goal snapshot reply (Some z) (Some v))))

  check_read : (zookie version : Option (List ℕ)) → snapshot < 2 ^ 64
      → read (compact_text (check_spelled kind goal snapshot reply zookie version more)) ≡ Some (value zookie version)
  check_read zookie version fits =
      read_compact (check_spelled kind goal snapshot reply zookie version more) (value zookie version)
      (numbers zookie version fits) (shallow zookie version) (makes zookie version fits)

  -- ---- and records what its fields say

  version_there : (zookie version : Option (List ℕ)) → get_member (codes "version") (check_members kind goal snapshot reply zookie version) ≡ option_map string version
  version_there None None = refl
  version_there (Some z) None = refl
  version_there zookie (Some v) = refl

  zookie_there : (zookie version : Option (List ℕ)) → get_member (codes "zookie") (check_members kind goal snapshot reply zookie version) ≡ option_map string zookie
  zookie_there None None = refl
  zookie_there None (Some v) = refl
  zookie_there (Some z) None = refl
  zookie_there (Some z) (Some v) = refl

  abbrev said_by : ℕ → ℕ → Option (List ℕ) → Option (List ℕ) → Result EntryValue Cause
  said_by line before zookie version =
      goal_of goal >>= λ g. token_of zookie >>= λ token.
      Ok (record { kind = kind; line = line; goal = g; snapshot = snapshot; reply = reply; zookie = token; version = version; before = before })

  of_fields : (d : Data) (line before : ℕ) (zookie version : Option (List ℕ)) → get (codes "goal") d ≡ Some (string goal)
      → get (codes "snapshot") d ≡ Some (number (unsigned snapshot)) → get (codes "reply") d ≡ Some (boolean reply)
      → get (codes "zookie") d ≡ option_map string zookie → get (codes "version") d ≡ option_map string version
      → version_in kind reply (option_map string version) ≡ Some version → entry_of kind line before d ≡ said_by line before zookie version
  unfolding entry_of optional_text_of
  of_fields d line before None version g s r z v given = rw (g, s, r, z, v, given) refl
  of_fields d line before (Some t) version g s r z v given = rw (g, s, r, z, v, given) refl

  check_says : (line before : ℕ) (zookie version : Option (List ℕ)) → AreFree more → version_in kind reply (option_map string version) ≡ Some version
      → entry_of kind line before (value zookie version) ≡ said_by line before zookie version
  check_says line before zookie version free given =
      let ms = check_members kind goal snapshot reply zookie version in
      of_fields (value zookie version) line before zookie version (asked 1 (omega arith) more ms free) (asked 2 (omega arith) more ms free)
      (asked 3 (omega arith) more ms free) (asked 4 (omega arith) more ms free ∙ zookie_there zookie version)
      (asked 5 (omega arith) more ms free ∙ version_there zookie version) given

-- ---- the version that a check may have

pub no_version : (kind : EntryKind) (reply : Bool) → fits_reply kind reply None ≡ true → version_in kind reply None ≡ Some None
unfolding version_in label_in optional_text_of
no_version kind reply fits = rw fits refl

pub some_version : (kind : EntryKind) (reply : Bool) (version : List ℕ) → is_label version ≡ true → fits_reply kind reply (Some version) ≡ true
    → version_in kind reply (Some (string version)) ≡ Some (Some version)
unfolding version_in label_in optional_text_of
some_version kind reply version label fits = rw (label, fits) refl

-- ---- the line

-- what is left behind the fields is members more
pub is_check : (text rest : List ℕ) (kind : EntryKind) (s : Said) → text ≡ codes "{\"kind\":\"" ++ (kind_name kind ++ 34 ∷ said_text s rest) → ArePlain s → IsMore rest
    → version_in kind s.reply (option_map (λ t. string t.now) s.version) ≡ Some (option_map (λ t. t.now) s.version) → IsCheck text kind s
is_check text rest kind s same plain more given =
    let zookie = option_map (λ t. t.now) s.zookie in
    let version = option_map (λ t. t.now) s.version in
    let ms = check_members kind s.goal.now s.snapshot s.reply zookie version in (
      object (put_more more.0 ms),
      ap read (same ∙ check_text s.goal.now s.snapshot s.reply zookie version rest (more_members more.0) plain.0 plain.1 plain.2 more.1 kind)
          ∙ check_read kind s.goal.now s.snapshot s.reply more.0 zookie version plain.3,
      asked 0 (omega arith) more.0 ms more.2,
      λ line before. check_says kind s.goal.now s.snapshot s.reply more.0 line before zookie version more.2 (named s.version given),
    )
  where
    named : (o : Option (Bor (List ℕ))) → version_in kind s.reply (option_map (λ t. string t.now) o) ≡ Some (option_map (λ t. t.now) o)
        → version_in kind s.reply (option_map string (option_map (λ t. t.now) o)) ≡ Some (option_map (λ t. t.now) o)
    named None e = e
    named (Some t) e = e

told_of_its_kind : (kind : EntryKind) (d : Data) (text : List ℕ) → get (codes "kind") d ≡ Some (string (kind_name kind))
    → line_said text d ≡ (entry_of kind 0 0 d >>= λ e. Ok (records e))
unfolding line_said
told_of_its_kind Check d text is = rw is refl
told_of_its_kind Content d text is = rw is refl

module _ (kind : EntryKind) (s : Said) (text : List ℕ) (is : IsCheck text kind s) where
  pub line_told : line_of_text text ≡ (entry_said kind 0 0 (Some s) >>= λ e. Ok (records e))
  line_told =
      ap (line_of_json causes.NotJson (line_said text)) is.1 ∙ told_of_its_kind kind is.0 text is.2 ∙ ap (λ r. r >>= λ e. Ok (records e)) (is.3 0 0)
