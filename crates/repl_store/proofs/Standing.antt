-- How the files of a folder go on standing for what a store keeps: where other files change, and under a new control.
use Rattle.std.proofs.Common.{
  ◌≡◌,
  ◌≢◌,
  ◌⊎◌,
  ℕ,
  ◌+◌,
  ◌^◌,
  ◌<◌,
  ◌≤◌,
  List,
  [],
  length,
  Option,
  Some,
  IsSome,
  sym,
  ◌∙◌,
  subst,
  ⊎_elim,
  inl,
  inr,
  arith,
}
use Rattle.repl_control.specs.Control.{IsControl, FitsFields, control_bytes}
use Rattle.repl_control.specs.declared.control.Control.{Control}
use Rattle.repl_disk.specs.Folder.{Folder}
use Rattle.repl_lsn.specs.Between.{AreBetween}
use Rattle.repl_lsn.specs.History.{Path, InOrder, SaysHistory}
use Rattle.repl_lsn.specs.Segment.{Fits, IsSegSize, history_name}
use Rattle.repl_lsn.specs.Between.{AreBetween}
use Rattle.repl_store.specs.Durable.{Carries, Durable, HasPath, IsKnown, StandsFor, control_name, segment_file}
use Rattle.repl_store.specs.Head.{Head, IsHead}
use Rattle.repl_store.proofs.Carrying.{carries_elsewhere}
use Rattle.repl_store.proofs.Names.{HasNames, differ, file_differs, history_differs, length_file}

-- the histories are as they were
abbrev pub SameHistories : Folder → Folder → Type 0
SameHistories old new = (tli : ℕ) → 0 < tli → tli < 2 ^ 32 → new (history_name tli) ≡ old (history_name tli)

-- no other file changed
abbrev pub OnlyAt : List ℕ → Folder → Folder → Type 0
OnlyAt name old new = (other : List ℕ) → other ≢ name → new other ≡ old other

-- ---- the path, and the numbers heard of

pub has_path_by : (size : ℕ) (c : Control) (path : Path) (old new : Folder) → FitsFields c → SameHistories old new
    → HasPath size old c path → HasPath size new c path
has_path_by size c path old new fits same has = record {
  own = has.own;
  history = ⊎_elim inl
      (λ (h : (c.tli ≢ 1) × ((text : List ℕ) × (old (history_name c.tli) ≡ Some text) × SaysHistory text path)).
      inr (h.0, (h.1.0, same c.tli fits.timeline.0 fits.timeline.1 ∙ h.1.1, h.1.2)))
      has.history;
  between = has.between;
}

pub known_by : (own known : ℕ) (old new : Folder) → 0 < own → SameHistories old new → IsKnown old own known → IsKnown new own known
known_by own known old new some same is = record {
  above = is.above;
  is = ⊎_elim inl
      (λ (h : (known < 2 ^ 32) × IsSome (old (history_name known))).
      inr (h.0, subst (λ (file : Option (List ℕ)). IsSome file) (sym (same known (omega (arith, is.above)) h.0)) h.1))
      is.is;
  all = λ tli above below there. is.all tli above below (subst (λ (file : Option (List ℕ)). IsSome file) (same tli above below) there);
}

-- ---- the whole

-- the control and the histories are as they were, and the bytes are there
pub stands_by : (size : ℕ) (d : Durable) (old new : Folder) → StandsFor size old d → new control_name ≡ old control_name
    → SameHistories old new → Carries size new d.path d.control.floor d.bytes → StandsFor size new d
stands_by size d old new stands control same carries = record {
  control = control ∙ stands.control;
  fits = stands.fits;
  right = stands.right;
  path = has_path_by size d.control d.path old new stands.fits same stands.path;
  counted = stands.counted;
  carries = carries;
  known = known_by d.control.tli d.known old new stands.fits.timeline.0 same stands.known;
}

-- the bytes end where positions still have a segment
pub bytes_end : (size : ℕ) (d : Durable) (folder : Folder) → StandsFor size folder d → d.control.floor + length d.bytes ≤ 2 ^ 63
bytes_end size d folder stands = omega (arith, stands.counted, stands.right.flushed.1)

-- a file changed that is none of the store's, by the length of its name
pub stands_elsewhere : (size : ℕ) (d : Durable) (name : List ℕ) (old new : Folder) → HasNames size d.path → length name ≢ 7
    → length name ≢ 16 → length name ≢ 24 → OnlyAt name old new → StandsFor size old d → StandsFor size new d
stands_elsewhere size d name old new named no_control no_history no_segment only stands =
    stands_by size d old new stands (only control_name (differ control_name name (λ e. no_control (sym e))))
    (λ tli some small. only (history_name tli) (λ same. history_differs tli name small no_history (sym same)))
    (carries_elsewhere size d.path d.control.floor d.bytes old new (omega (arith, bytes_end size d old stands)) (λ segment fits.
    only (segment_file size d.path segment) (file_differs size d.path named segment name fits no_segment)) stands.carries)

-- a segment's file changed, also one of another path
pub stands_at_segment : (size : ℕ) (d : Durable) (path : Path) (segment : ℕ) (old new : Folder) → HasNames size path → Fits size segment
    → OnlyAt (segment_file size path segment) old new → Carries size new d.path d.control.floor d.bytes → StandsFor size old d
    → StandsFor size new d
stands_at_segment size d path segment old new named fits only carries stands =
    stands_by size d old new stands
    (only control_name (λ same. file_differs size path named segment control_name fits (λ e. omega (arith, e)) (sym same)))
    (λ tli some small. only (history_name tli) (λ same. history_differs tli (segment_file size path segment) small (λ e. omega (
      arith,
      e,
      length_file size path named segment fits,
    )) (sym same))) carries

-- ---- a new control on the same path

pub stands_renewed : (size : ℕ) (d : Durable) (c : Control) (bytes : List ℕ) (old new : Folder) → StandsFor size old d
    → new control_name ≡ Some (control_bytes c) → SameHistories old new → FitsFields c → IsControl size c → c.tli ≡ d.control.tli
    → AreBetween size c.whole d.path.parents → c.floor + length bytes ≡ c.flushed → Carries size new d.path c.floor bytes
    → StandsFor size new (record { control = c; path = d.path; bytes = bytes; known = d.known })
stands_renewed size d c bytes old new stands control same fits right tli between counted carries = record {
  control = control;
  fits = fits;
  right = right;
  path = record {
    own = path.own ∙ sym tli;
    history = subst (λ n. ((n ≡ 1) × (d.path.parents ≡ [])) ⊎ ((n ≢ 1) × ((text : List ℕ) × (new (history_name n) ≡ Some text)
        × SaysHistory text d.path))) (sym tli) path.history;
    between = between;
  };
  counted = counted;
  carries = carries;
  known = subst (λ n. IsKnown new n d.known) (sym tli) (known_by d.control.tli d.known old new stands.fits.timeline.0 same stands.known);
}
  where
    path : HasPath size new d.control d.path
    path = has_path_by size d.control d.path old new stands.fits same stands.path

-- ---- the names on the path

pub names_of_head : (head : Head) → IsHead head → HasNames head.size head.path
names_of_head head is = record { is_size = is.size; order = is.is_path; own = omega (arith, is.own, is.fits.timeline.1) }

pub names_of : (size : ℕ) (d : Durable) (folder : Folder) → IsSegSize size → StandsFor size folder d → HasNames size d.path
names_of size d folder is_size stands = record {
  is_size = is_size;
  order = ⊎_elim (λ (first : (d.control.tli ≡ 1) × (d.path.parents ≡ [])). subst (InOrder d.path.own) (sym first.1) tt)
      (λ (h : (d.control.tli ≢ 1) × ((text : List ℕ) × (folder (history_name d.control.tli) ≡ Some text) × SaysHistory text d.path)).
      h.1.2.is_path)
      stands.path.history;
  own = omega (arith, stands.path.own, stands.fits.timeline.1);
}
