-- The versions that waiting entries name are known in a log as they are in what stands in for it.
use Rattle.std.proofs.Common.{◌≡◌, ℕ, ◌≤◌, Bool, sym, ap, ◌∙◌, arith}
use Rattle.std.specs.Prelude.{filter}
use Rattle.trace_lines.specs.Values.{EntryValue, TraceValue}
use Rattle.trace_lines.specs.Versions.{entry_version, version_named}
use Rattle.carry_laws.specs.Asked.{knows_named}
use Rattle.carry_laws.specs.Carried.{StandsIn, placeless}
use Rattle.carry_laws.specs.Together.{StaysKnown}
use Rattle.carry_laws.specs.declared.known.Known.{Known}
use Rattle.carry_laws.proofs.AlikeLemmas.{knows_alike}
use Rattle.carry_laws.proofs.HandedLemmas.{among_kept, waits_too}
use Rattle.carry_laws.proofs.PartLemmas.{copied}

module _ (known : Known) (p : ℕ) (u y : TraceValue) (s : StandsIn known p u y) where
  same_named : (from : ℕ) → known.versions ≤ from → (e d : EntryValue) → placeless d ≡ placeless e
      → knows_named from u.entries e ≡ knows_named from y.entries d
  same_named from later e d same =
      knows_alike known p u y s from later e.line (version_named e.kind (entry_version e))
      ∙ sym (ap (knows_named from y.entries) same)

  pub stays_in_log : (further : ℕ) → known.versions ≤ further → StaysKnown y known.versions further
      → StaysKnown u known.versions further
  stays_in_log further later steady i e at unset =
      let kept = s.keeps.unsettled i e at unset in
      let among = among_kept s.keep u.entries i e at kept.0 in
      let copy = copied y.entries (filter s.keep u.entries) (sym s.entries) among.0 e among.1 in
      same_named further later e copy.0 copy.2
      ∙ steady among.0 copy.0 copy.1 (waits_too known p u y s e copy.0 copy.2 unset)
      ∙ sym (same_named known.versions (omega arith) e copy.0 copy.2)
