-- An index of the lines so far is one of each longer log.
use Rattle.std.proofs.Common.{◌≡◌, ℕ, ◌+◌, ◌≤◌, true, List, [], ◌∷◌, ◌++◌, Ok, sym, ◌∙◌, ap, subst, append_assoc, append-nil}
use Rattle.namespaces.specs.Declaration.{Declaration}
use Rattle.version_chains.specs.Commits.{Commit}
use Rattle.userset_index.specs.Growth.{IsGrowing}
use Rattle.userset_index.specs.Index.{IndexValue}
use Rattle.userset_index.proofs.GrowthLemmas.{growing_longer}
use Rattle.trace_lines.specs.Values.{TraceValue, next_line}
use Rattle.windows.specs.Growth.{GoesOn}
use Rattle.runs.specs.Kept.{KeptValue}
use Rattle.runs.proofs.KeptReadLemmas.{goes_behind}
use Rattle.follow.specs.Reading.{IsSaidBehind}
use Rattle.audit.specs.Audit.{Says}
use Rattle.follow.proofs.GrownLemmas.{goes_whole}

abbrev pub IsIndexSoFar : Says → List ℕ → IndexValue → Type 0
IsIndexSoFar says used v =
    (u : TraceValue) (more : List ℕ) → says true (used ++ more) ≡ Ok u → IsGrowing u.declarations u.commits v

index_longer : {k : ℕ} (t u : TraceValue) → GoesOn k t u → (v : IndexValue) → IsGrowing t.declarations t.commits v
    → IsGrowing u.declarations u.commits v
index_longer t u goes v growing =
    subst (λ (ds : List Declaration). IsGrowing ds u.commits v) (sym goes.declared)
    (subst (λ (cs : List Commit). IsGrowing (t.declarations ++ goes.declarations) cs v) (sym goes.committed)
    (growing_longer t.declarations goes.declarations t.commits goes.commits v growing))

module _ (says : Says) (s : KeptValue) (means : IsSaidBehind s says)
    (fits : next_line s.log ≤ s.lines + 1) where
  pub index_first : (v : IndexValue) → IsGrowing s.log.declarations s.log.commits v → IsIndexSoFar says [] v
  index_first v growing u more said =
      index_longer s.log u (goes_behind s fits more u (sym (means true more) ∙ said)) v growing

  pub index_told : (used a : List ℕ) (t : TraceValue) (v : IndexValue) → used ≡ a ++ 10 ∷ [] → says true used ≡ Ok t
      → IsGrowing t.declarations t.commits v → IsIndexSoFar says used v
  index_told used a t v is said growing u more reads =
      index_longer t u (goes_whole s fits says means a more t u (ap (says true) (sym is) ∙ said)
      (ap (λ (l : List ℕ). says true (l ++ more)) (sym is) ∙ reads)) v growing

pub index_line : (says : Says) (used further line : List ℕ) (v : IndexValue) → further ≡ used ++ line → IsIndexSoFar says used v
    → IsIndexSoFar says further v
index_line says used further line v is so_far u more said =
    so_far u (line ++ more)
    (ap (says true) (sym (append_assoc used line more) ∙ ap (λ (l : List ℕ). l ++ more) (sym is)) ∙ said)

pub index_now : (says : Says) (used : List ℕ) (t : TraceValue) (v : IndexValue) → IsIndexSoFar says used v
    → says true used ≡ Ok t → IsGrowing t.declarations t.commits v
index_now says used t v so_far said = so_far t [] (ap (says true) (append-nil used) ∙ said)
