-- Places in the sorted list of files, and what a change at one does.
use Rattle.std.proofs.Common.{◌≡◌, ℕ, zero, suc, ◌+◌, ◌<◌, ◌≤◌, Bool, true, false, cond, List, [], ◌∷◌, length, get_or, set, Option, Some, None, Result, Ok, Err, Ordering, Less, Equal, Greater, refl, sym, ◌∙◌, ap, subst, arith}
use Rattle.std.specs.Cmp.Lexicographic.{slice_cmp}
use Rattle.std.specs.List.{insert, remove}
use Rattle.std.specs.Ordering.{nat_cmp}
use Rattle.std.specs.Prelude.{bytes_eq}
use Rattle.repl_disk.specs.Files.{Changed, found, place_of, place_by, one_later, StandsBefore, AreOrdered}
use Rattle.repl_disk.specs.Folder.{IsBefore}
use Rattle.repl_disk.specs.Stored.{Stored}
use Rattle.repl_disk.proofs.Names.{before-before, Tells, cmp_tells, same_name, name_same, other_name, before_differs}

abbrev pub places_later : ℕ → Result ℕ ℕ → Result ℕ ℕ
places_later n (Ok place) = Ok (n + place)
places_later n (Err place) = Err (n + place)

-- ---- what a place tells

-- the file at this place has the name, and those before it stand before
abbrev pub IsAt : List Stored → List ℕ → ℕ → Type 0
IsAt [] name place = ⊥
IsAt (file ∷ files) name zero = file.name ≡ name
IsAt (file ∷ files) name (suc place) = IsBefore file.name name × IsAt files name place

-- the files before this place stand before the name, and the next one after it
abbrev pub WouldStand : List Stored → List ℕ → ℕ → Type 0
WouldStand [] name zero = Unit {0}
WouldStand [] name (suc place) = ⊥
WouldStand (file ∷ files) name zero = IsBefore name file.name
WouldStand (file ∷ files) name (suc place) = IsBefore file.name name × WouldStand files name place

abbrev pub PlaceTells : List Stored → List ℕ → Result ℕ ℕ → Type 0
PlaceTells files name (Ok place) = IsAt files name place
PlaceTells files name (Err place) = WouldStand files name place

later_tells : (file : Stored) (files : List Stored) (name : List ℕ) (r : Result ℕ ℕ) → IsBefore file.name name → PlaceTells files name r
    → PlaceTells (file ∷ files) name (one_later r)
later_tells file files name (Ok place) before tells = (before, tells)
later_tells file files name (Err place) before tells = (before, tells)

by_tells : (file : Stored) (files : List Stored) (name : List ℕ) (o : Ordering) (r : Result ℕ ℕ) → Tells o file.name name
    → PlaceTells files name r → PlaceTells (file ∷ files) name (place_by o r)
by_tells file files name Less r order tells = later_tells file files name r order tells
by_tells file files name Equal r order tells = order
by_tells file files name Greater r order tells = order

pub place_tells : (files : List Stored) (name : List ℕ) → PlaceTells files name (place_of files name)
place_tells [] name = tt
place_tells (file ∷ files) name = by_tells file files name (slice_cmp nat_cmp file.name name) (place_of files name)
    (cmp_tells file.name name) (place_tells files name)

pub is_at : (files : List Stored) (name : List ℕ) (place : ℕ) → place_of files name ≡ Ok place → IsAt files name place
is_at files name place is = subst (λ (r : Result ℕ ℕ). PlaceTells files name r) is (place_tells files name)

pub would_stand : (files : List Stored) (name : List ℕ) (place : ℕ) → place_of files name ≡ Err place → WouldStand files name place
would_stand files name place is = subst (λ (r : Result ℕ ℕ). PlaceTells files name r) is (place_tells files name)

pub at_within : (files : List Stored) (name : List ℕ) (place : ℕ) → IsAt files name place → place < length files
at_within [] name place none = absurd none
at_within (file ∷ files) name zero here = omega arith
at_within (file ∷ files) name (suc place) there = omega (arith, at_within files name place there.1)

pub stands_within : (files : List Stored) (name : List ℕ) (place : ℕ) → WouldStand files name place → place ≤ length files
stands_within [] name zero here = omega arith
stands_within [] name (suc place) none = absurd none
stands_within (file ∷ files) name zero here = omega arith
stands_within (file ∷ files) name (suc place) there = omega (arith, stands_within files name place there.1)

pub name_at : (files : List Stored) (name : List ℕ) (place : ℕ) (d : Stored) → IsAt files name place → (get_or files place d).name ≡ name
name_at [] name place d none = absurd none
name_at (file ∷ files) name zero d here = here
name_at (file ∷ files) name (suc place) d there = name_at files name place d there.1

-- ---- looking up

found_first : (file : Stored) (files : List Stored) (name : List ℕ) → name ≡ file.name → found (file ∷ files) name ≡ Some file
found_first file files name same = ap (λ (b : Bool). cond b (Some file) (found files name)) (same_name name file.name same)

found_later : (file : Stored) (files : List Stored) (name : List ℕ) → (name ≡ file.name → ⊥) → found (file ∷ files) name ≡ found files name
found_later file files name differ = ap (λ (b : Bool). cond b (Some file) (found files name)) (other_name name file.name differ)

pub found_at : (files : List Stored) (name : List ℕ) (place : ℕ) (d : Stored) → IsAt files name place
    → found files name ≡ Some (get_or files place d)
found_at [] name place d none = absurd none
found_at (file ∷ files) name zero d here = found_first file files name (sym here)
found_at (file ∷ files) name (suc place) d there = found_later file files name (λ same. before_differs file.name name there.0 (sym same))
    ∙ found_at files name place d there.1

pub none_past : (name : List ℕ) (files : List Stored) → StandsBefore name files → found files name ≡ None
none_past name [] stands = refl
none_past name (file ∷ files) stands = found_later file files name (before_differs name file.name stands.0)
    ∙ none_past name files stands.1

pub earlier_stands : (a b : List ℕ) (files : List Stored) → IsBefore a b → StandsBefore b files → StandsBefore a files
earlier_stands a b [] before stands = tt
earlier_stands a b (file ∷ files) before stands = (before-before a b file.name before stands.0, earlier_stands a b files before stands.1)

pub found_none : (files : List Stored) (name : List ℕ) (place : ℕ) → AreOrdered files → WouldStand files name place
    → found files name ≡ None
found_none [] name place ordered stands = refl
found_none (file ∷ files) name zero ordered stands = none_past name (file ∷ files)
    (stands, earlier_stands name file.name files stands ordered.0)
found_none (file ∷ files) name (suc place) ordered stands = found_later file files name
    (λ same. before_differs file.name name stands.0 (sym same)) ∙ found_none files name place ordered.1 stands.1

-- ---- changes

-- as `Changed` says it
abbrev pub Alters : List Stored → List Stored → List ℕ → Option Stored → Type 0
Alters old new name file = (other : List ℕ) → found new other ≡ cond (bytes_eq other name) file (found old other)

-- a change after a file of another name
past : (first : Stored) (old new : List Stored) (name : List ℕ) (file : Option Stored) → (first.name ≡ name → ⊥)
    → Alters old new name file → Alters (first ∷ old) (first ∷ new) name file
past first old new name file differ alters other =
    ap (λ (x : Option Stored). cond (bytes_eq other first.name) (Some first) x) (alters other) ∙ swapped (bytes_eq other first.name)
    (bytes_eq other name) (name_same other first.name) (name_same other name)
  where
    swapped : (p q : Bool) → (p ≡ true → other ≡ first.name) → (q ≡ true → other ≡ name)
        → cond p (Some first) (cond q file (found old other)) ≡ cond q file (cond p (Some first) (found old other))
    swapped true true ps qs = absurd (differ (sym (ps refl) ∙ qs refl))
    swapped true false ps qs = refl
    swapped false true ps qs = refl
    swapped false false ps qs = refl

-- the first file in the place of one of its name, or before the others
first_alters : (old : List Stored) (name : List ℕ) (file : Stored) → file.name ≡ name → Alters old (file ∷ old) name (Some file)
first_alters old name file named other = ap (λ (n : List ℕ). cond (bytes_eq other n) (Some file) (found old other)) named

over_first : (first : Stored) (old : List Stored) (name : List ℕ) (file : Stored) → first.name ≡ name → file.name ≡ name
    → Alters (first ∷ old) (file ∷ old) name (Some file)
over_first first old name file is named other =
    first_alters old name file named other ∙ same (bytes_eq other name) ∙ ap
    (λ (n : List ℕ). cond (bytes_eq other name) (Some file) (cond (bytes_eq other n) (Some first) (found old other))) (sym is)
  where
    same : (p : Bool) → cond p (Some file) (found old other) ≡ cond p (Some file) (cond p (Some first) (found old other))
    same true = refl
    same false = refl

pub set_alters : (files : List Stored) (name : List ℕ) (place : ℕ) (file : Stored) → IsAt files name place → file.name ≡ name
    → Alters files (set files place file) name (Some file)
set_alters [] name place file none named = absurd none
set_alters (first ∷ files) name zero file here named = over_first first files name file here named
set_alters (first ∷ files) name (suc place) file there named = past first files (set files place file) name (Some file)
    (before_differs first.name name there.0) (set_alters files name place file there.1 named)

pub insert_alters : (files : List Stored) (name : List ℕ) (place : ℕ) (file : Stored) → WouldStand files name place → file.name ≡ name
    → Alters files (insert files place file) name (Some file)
insert_alters [] name zero file stands named = first_alters [] name file named
insert_alters [] name (suc place) file none named = absurd none
insert_alters (first ∷ files) name zero file stands named = first_alters (first ∷ files) name file named
insert_alters (first ∷ files) name (suc place) file there named = past first files (insert files place file) name (Some file)
    (before_differs first.name name there.0) (insert_alters files name place file there.1 named)

first_removed : (first : Stored) (files : List Stored) (name : List ℕ) → first.name ≡ name → StandsBefore first.name files
    → Alters (first ∷ files) files name None
first_removed first files name is stands other = gone (bytes_eq other name) (name_same other name) ∙ ap
    (λ (n : List ℕ). cond (bytes_eq other name) None (cond (bytes_eq other n) (Some first) (found files other))) (sym is)
  where
    gone : (p : Bool) → (p ≡ true → other ≡ name) → found files other ≡ cond p None (cond p (Some first) (found files other))
    gone true same = none_past other files (subst (λ (n : List ℕ). StandsBefore n files) (is ∙ sym (same refl)) stands)
    gone false same = refl

pub remove_alters : (files : List Stored) (name : List ℕ) (place : ℕ) → AreOrdered files → IsAt files name place
    → Alters files (remove files place) name None
remove_alters [] name place ordered none = absurd none
remove_alters (first ∷ files) name zero ordered here = first_removed first files name here ordered.0
remove_alters (first ∷ files) name (suc place) ordered there = past first files (remove files place) name None
    (before_differs first.name name there.0) (remove_alters files name place ordered.1 there.1)

-- ---- the order stays

set_past : (before : List ℕ) (files : List Stored) (name : List ℕ) (place : ℕ) (file : Stored) → IsAt files name place → file.name ≡ name
    → StandsBefore before files → StandsBefore before (set files place file)
set_past before [] name place file none named stands = absurd none
set_past before (first ∷ files) name zero file here named stands =
    (subst (λ (n : List ℕ). IsBefore before n) (here ∙ sym named) stands.0, stands.1)
set_past before (first ∷ files) name (suc place) file there named stands =
    (stands.0, set_past before files name place file there.1 named stands.1)

pub set_ordered : (files : List Stored) (name : List ℕ) (place : ℕ) (file : Stored) → IsAt files name place → file.name ≡ name
    → AreOrdered files → AreOrdered (set files place file)
set_ordered [] name place file none named ordered = absurd none
set_ordered (first ∷ files) name zero file here named ordered =
    (subst (λ (n : List ℕ). StandsBefore n files) (here ∙ sym named) ordered.0, ordered.1)
set_ordered (first ∷ files) name (suc place) file there named ordered =
    (set_past first.name files name place file there.1 named ordered.0, set_ordered files name place file there.1 named ordered.1)

insert_past : (before : List ℕ) (files : List Stored) (place : ℕ) (file : Stored) → place ≤ length files → IsBefore before file.name
    → StandsBefore before files → StandsBefore before (insert files place file)
insert_past before files zero file within stands_file stands = (stands_file, stands)
insert_past before [] (suc place) file within stands_file stands = absurd (omega arith)
insert_past before (first ∷ files) (suc place) file within stands_file stands =
    (stands.0, insert_past before files place file (omega arith) stands_file stands.1)

pub insert_ordered : (files : List Stored) (name : List ℕ) (place : ℕ) (file : Stored) → WouldStand files name place → file.name ≡ name
    → AreOrdered files → AreOrdered (insert files place file)
insert_ordered [] name zero file stands named ordered = (tt, tt)
insert_ordered [] name (suc place) file none named ordered = absurd none
insert_ordered (first ∷ files) name zero file stands named ordered =
    ((earlier, earlier_stands file.name first.name files earlier ordered.0), ordered)
  where
    earlier : IsBefore file.name first.name
    earlier = subst (λ (n : List ℕ). IsBefore n first.name) (sym named) stands
insert_ordered (first ∷ files) name (suc place) file there named ordered = (
  insert_past first.name files place file (stands_within files name place there.1)
      (subst (λ (n : List ℕ). IsBefore first.name n)
      (sym named) there.0) ordered.0,
  insert_ordered files name place file there.1 named ordered.1,
)

remove_past : (before : List ℕ) (files : List Stored) (place : ℕ) → StandsBefore before files → StandsBefore before (remove files place)
remove_past before [] zero stands = tt
remove_past before [] (suc place) stands = tt
remove_past before (first ∷ files) zero stands = stands.1
remove_past before (first ∷ files) (suc place) stands = (stands.0, remove_past before files place stands.1)

pub remove_ordered : (files : List Stored) (place : ℕ) → AreOrdered files → AreOrdered (remove files place)
remove_ordered [] zero ordered = tt
remove_ordered [] (suc place) ordered = tt
remove_ordered (first ∷ files) zero ordered = ordered.1
remove_ordered (first ∷ files) (suc place) ordered = (remove_past first.name files place ordered.0, remove_ordered files place ordered.1)

-- ---- both

pub set_changed : (files : List Stored) (name : List ℕ) (place : ℕ) (file : Stored) → IsAt files name place → file.name ≡ name
    → AreOrdered files → Changed files (set files place file) name (Some file)
set_changed files name place file here named ordered = record {
  ordered = set_ordered files name place file here named ordered;
  files = set_alters files name place file here named;
}

pub insert_changed : (files : List Stored) (name : List ℕ) (place : ℕ) (file : Stored) → WouldStand files name place → file.name ≡ name
    → AreOrdered files → Changed files (insert files place file) name (Some file)
insert_changed files name place file here named ordered = record {
  ordered = insert_ordered files name place file here named ordered;
  files = insert_alters files name place file here named;
}

pub remove_changed : (files : List Stored) (name : List ℕ) (place : ℕ) → IsAt files name place → AreOrdered files
    → Changed files (remove files place) name None
remove_changed files name place here ordered = record {
  ordered = remove_ordered files place ordered;
  files = remove_alters files name place ordered here;
}

-- ---- from an answer

pub at_from : (seen files : List Stored) (name : List ℕ) (place : ℕ) → Ok place ≡ place_of seen name → seen ≡ files → IsAt files name place
at_from seen files name place is same = subst (λ (l : List Stored). IsAt l name place) same (is_at seen name place (sym is))

pub stands_from : (seen files : List Stored) (name : List ℕ) (place : ℕ) → Err place ≡ place_of seen name → seen ≡ files
    → WouldStand files name place
stands_from seen files name place is same = subst (λ (l : List Stored). WouldStand l name place) same (would_stand seen name place (sym is))

pub at_named : (seen files : List Stored) (asked name : List ℕ) (place : ℕ) → Ok place ≡ place_of seen asked → seen ≡ files → asked ≡ name
    → IsAt files name place
at_named seen files asked name place is same named = subst (λ (n : List ℕ). IsAt files n place) named
    (at_from seen files asked place is same)

pub stands_named : (seen files : List Stored) (asked name : List ℕ) (place : ℕ) → Err place ≡ place_of seen asked → seen ≡ files
    → asked ≡ name → WouldStand files name place
stands_named seen files asked name place is same named = subst (λ (n : List ℕ). WouldStand files n place) named
    (stands_from seen files asked place is same)

-- nothing was there and nothing changes
pub none_changed : (files : List Stored) (name : List ℕ) → found files name ≡ None → AreOrdered files → Changed files files name None
none_changed files name none ordered = record {
  ordered = ordered;
  files = λ other. same other (bytes_eq other name)
      (name_same other name);
}
  where
    same : (other : List ℕ) (p : Bool) → (p ≡ true → other ≡ name) → found files other ≡ cond p None (found files other)
    same other true is = ap (found files) (is refl) ∙ none
    same other false is = refl
