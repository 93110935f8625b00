-- How files go on carrying the log's bytes: where other files change, under a torn write past their end, after a sync,
-- and where bytes are added or cut off.
use Rattle.std.proofs.Common.{
  ◌≡◌,
  ◌⊎◌,
  ℕ,
  ◌+◌,
  ◌-◌,
  ◌/◌,
  ◌%◌,
  ◌^◌,
  ◌<◌,
  ◌≤◌,
  max,
  Bool,
  true,
  false,
  List,
  [],
  ◌++◌,
  length,
  get_or,
  take,
  drop,
  Option,
  Some,
  None,
  refl,
  sym,
  ap,
  ◌∙◌,
  subst,
  ⊎_elim,
  inl,
  arith,
  length-append,
}
use Rattle.std.proofs.lemmas.Bool.{cases_lt, cases_order}
use Rattle.std.proofs.lemmas.List.{
  places,
  length-take,
  length-drop,
  length-replicate,
  get_or-take,
  get_or-drop,
  get_or_append_left,
  get_or-append_right,
}
use Rattle.std.proofs.lemmas.Slice.Eq.{bytes_eq-Decides}
use Rattle.std.specs.Prelude.{bytes_eq}
use Rattle.repl_disk.specs.Crash.{Tears, Torn, TornFile, Syncs}
use Rattle.repl_disk.specs.Folder.{Folder, content, overwritten, written}
use Rattle.repl_disk.specs.Steps.{put_at, put_other}
use Rattle.repl_lsn.specs.History.{Path}
use Rattle.repl_lsn.specs.Segment.{Fits}
use Rattle.repl_store.specs.Durable.{Carries, file_at, segment_file}
use Rattle.repl_store.proofs.Names.{HasNames, same_file, fits_at, same_segment_past, place_past, earlier_place}

-- ---- the same files

-- where each byte's file is as it was, also under another path
pub carries_again : (size : ℕ) (path other : Path) (floor : ℕ) (bytes : List ℕ) (old new : Folder) → Carries size old path floor bytes
    → ((i : ℕ) → i < length bytes → file_at size new other (floor + i) ≡ file_at size old path (floor + i))
    → Carries size new other floor bytes
carries_again size path other floor bytes old new carries same = record {
  there = λ i lt. subst (λ (file : List ℕ). (floor + i) % size < length file) (sym (same i lt)) (carries.there i lt);
  same = λ i lt. ap (λ (file : List ℕ). get_or file ((floor + i) % size) 0) (same i lt) ∙ carries.same i lt;
}

-- where no segment's file changed
pub carries_elsewhere : (size : ℕ) (path : Path) (floor : ℕ) (bytes : List ℕ) (old new : Folder) → floor + length bytes ≤ 2 ^ 64
    → ((segment : ℕ) → Fits size segment → new (segment_file size path segment) ≡ old (segment_file size path segment))
    → Carries size old path floor bytes → Carries size new path floor bytes
carries_elsewhere size path floor bytes old new short same carries =
    carries_again size path path floor bytes old new carries (λ i lt. ap content (same ((floor + i) / size)
    (fits_at size (floor + i) (omega arith))))

-- ---- fewer bytes

pub carries_take : (size : ℕ) (path : Path) (floor : ℕ) (bytes : List ℕ) (folder : Folder) (n : ℕ) → Carries size folder path floor bytes
    → Carries size folder path floor (take n bytes)
carries_take size path floor bytes folder n carries = record {
  there = λ i lt. carries.there i (omega (arith, length-take n bytes));
  same = λ i lt. carries.same i (omega (arith, length-take n bytes))
      ∙ sym (get_or-take n bytes i 0 (omega (arith, length-take n bytes)));
}

pub carries_front : (size : ℕ) (path : Path) (floor : ℕ) (front rest : List ℕ) (folder : Folder)
    → Carries size folder path floor (front ++ rest) → Carries size folder path floor front
carries_front size path floor front rest folder carries = record {
  there = λ i lt. carries.there i (omega (arith, length-append front rest));
  same = λ i lt. carries.same i (omega (arith, length-append front rest)) ∙ get_or_append_left front rest 0 i lt;
}

-- from a later floor on
pub carries_drop : (size : ℕ) (path : Path) (floor : ℕ) (bytes : List ℕ) (folder : Folder) (n : ℕ) → Carries size folder path floor bytes
    → Carries size folder path (floor + n) (drop n bytes)
carries_drop size path floor bytes folder n carries = record {
  there = λ i lt. subst (λ (p : ℕ). p % size < length (file_at size folder path p)) (sum i)
      (carries.there (n + i) (omega (arith, length-drop n bytes)));
  same = λ i lt. ap (λ (p : ℕ). get_or (file_at size folder path p) (p % size) 0) (sym (sum i))
      ∙ carries.same (n + i) (omega (arith, length-drop n bytes)) ∙ sym (get_or-drop n bytes i 0);
}
  where
    sum : (i : ℕ) → floor + (n + i) ≡ floor + n + i
    sum i = omega arith

-- ---- a torn write

-- bytes of a file before the place of a write stay
pub torn_keeps : (at count k : ℕ) (old new : Option (List ℕ)) → TornFile at count old new → k < length (content old) → k < at
    → (k < length (content new)) × (get_or (content new) k 0 ≡ get_or (content old) k 0)
torn_keeps at count k None new tears lt before = absurd (omega arith)
torn_keeps at count k (Some old) None tears lt before = absurd tears
torn_keeps at count k (Some old) (Some new) tears lt before = (omega (arith, tears.no_shorter), tears.outside k lt (inl before))

-- a write after the bytes, in the segment of its position
pub carries_torn : (size : ℕ) (path : Path) (floor : ℕ) (bytes : List ℕ) (at count : ℕ) (old new : Folder) → HasNames size path
    → floor + length bytes ≤ at → at < 2 ^ 64 → Tears (segment_file size path (at / size)) (at % size) count old new
    → Carries size old path floor bytes → Carries size new path floor bytes
carries_torn size path floor bytes at count old new named past small tears carries = record {
  there = λ i lt. (each i lt).0;
  same = λ i lt. (each i lt).1 ∙ carries.same i lt;
}
  where
    name : List ℕ
    name = segment_file size path (at / size)

    Stays : ℕ → Type 0
    Stays p = (p % size < length (file_at size new path p)) × (get_or (file_at size new path p) (p % size) 0 ≡ get_or
        (file_at size old path p) (p % size) 0)

    elsewhere : (p : ℕ) → p < 2 ^ 64 → (p / size ≡ at / size → ⊥) → p % size < length (file_at size old path p) → Stays p
    elsewhere p p_small apart there =
        let same = tears.others (segment_file size path (p / size)) (λ one. apart (same_file size path path (p / size) (at / size) named
        named (fits_at size p p_small) (fits_at size at small) one)) in (
          subst (λ (file : Option (List ℕ)). p % size < length (content file)) (sym same) there,
          ap (λ (file : Option (List ℕ)). get_or (content file) (p % size) 0) same,
        )

    here : (p : ℕ) → p < at → p / size ≡ at / size → p % size < length (file_at size old path p) → Stays p
    here p before one there =
        let is : segment_file size path (at / size) ≡ segment_file size path (p / size) = ap (segment_file size path) (sym one) in
        torn_keeps (at % size) count (p % size) (old (segment_file size path (p / size))) (new (segment_file size path (p / size)))
        (subst (λ (n : List ℕ). TornFile (at % size) count (old n) (new n)) is tears.file) there (earlier_place size p at before one)

    each : (i : ℕ) → i < length bytes → Stays (floor + i)
    each i lt =
        let before : floor + i < at = omega arith in
        ⊎_elim
        (λ (one : (floor + i) / size ≡ at / size). here (floor + i) before one (carries.there i lt))
        (λ (apart : ((floor + i) / size < at / size) ⊎ (at / size < (floor + i) / size)).
        elsewhere (floor + i) (omega arith) (λ one. ⊎_elim (λ l. omega arith) (λ l. omega arith) apart) (carries.there i lt))
        (cases_order ((floor + i) / size) (at / size))

-- ---- a write that is done

length-overwritten : (old : List ℕ) (at : ℕ) (bytes : List ℕ) → length (overwritten old at bytes) ≡ max (length old) (at + length bytes)
length-overwritten old at bytes = simp (length-append, length-take, length-replicate, length-drop) (omega arith)

get_or-overwritten-before : (old : List ℕ) (at : ℕ) (bytes : List ℕ) (k : ℕ) → k < length old → k < at
    → get_or (overwritten old at bytes) k 0 ≡ get_or old k 0
get_or-overwritten-before old at bytes k lt below = grind (arith, places)

get_or-overwritten-past : (old : List ℕ) (at : ℕ) (bytes : List ℕ) (k : ℕ) → k < length old → at + length bytes ≤ k
    → get_or (overwritten old at bytes) k 0 ≡ get_or old k 0
get_or-overwritten-past old at bytes k lt above = grind (arith, places)

torn : (old : List ℕ) (at : ℕ) (bytes : List ℕ) → Torn at (length bytes) old (overwritten old at bytes)
torn old at bytes = record {
  outside = λ i lt out. ⊎_elim (get_or-overwritten-before old at bytes i lt) (get_or-overwritten-past old at bytes i lt) out;
  no_shorter = omega (arith, length-overwritten old at bytes);
  no_longer = omega (arith, length-overwritten old at bytes);
}

-- it tears nothing but its range
pub written_tears : (folder : Folder) (name : List ℕ) (at : ℕ) (bytes : List ℕ)
    → Tears name at (length bytes) folder (written folder name at bytes)
written_tears folder name at bytes = record {
  others = λ other differ. put_other folder name other (Some (overwritten (content (folder name)) at bytes)) differ;
  file = subst (TornFile at (length bytes) (folder name)) (sym (put_at folder name (Some (overwritten (content (folder name)) at bytes))))
      (file (folder name));
}
  where
    file : (old : Option (List ℕ)) → TornFile at (length bytes) old (Some (overwritten (content old) at bytes))
    file None = omega (arith, length-overwritten [] at bytes)
    file (Some old) = torn old at bytes

get_or-overwritten-there : (old : List ℕ) (at : ℕ) (bytes : List ℕ) (k : ℕ) → k < length bytes
    → get_or (overwritten old at bytes) (at + k) 0 ≡ get_or bytes k 0
get_or-overwritten-there old at bytes k lt = grind (arith, places)

-- bytes right after them, in one segment
pub carries_appended : (size : ℕ) (path : Path) (floor : ℕ) (bytes more : List ℕ) (at : ℕ) (folder : Folder) → HasNames size path
    → 0 < size → floor + length bytes ≡ at → at < 2 ^ 64 → at % size + length more ≤ size → Carries size folder path floor bytes
    → Carries size (written folder (segment_file size path (at / size)) (at % size) more) path floor (bytes ++ more)
carries_appended size path floor bytes more at folder named some ends small inside carries = record {
  there = λ i lt. ⊎_elim (λ l. kept.there i l) (λ l. (past i l lt).0) (cases_lt i (length bytes));
  same = λ i lt. ⊎_elim (λ l. kept.same i l ∙ sym (get_or_append_left bytes more 0 i l)) (λ l. (past i l lt).1)
      (cases_lt i (length bytes));
}
  where
    name : List ℕ
    name = segment_file size path (at / size)

    file : List ℕ
    file = overwritten (content (folder name)) (at % size) more

    now : Folder
    now = written folder name (at % size) more

    kept : Carries size now path floor bytes
    kept = carries_torn size path floor bytes at (length more) folder now named (omega arith) small
        (written_tears folder name (at % size) more) carries

    past : (i : ℕ) → length bytes ≤ i → i < length (bytes ++ more)
        → ((floor + i) % size < length (file_at size now path (floor + i)))
        × (get_or (file_at size now path (floor + i)) ((floor + i) % size) 0 ≡ get_or (bytes ++ more) i 0)
    past i le lt =
        let k : ℕ = i - length bytes in
        let few : k < length more = omega (arith, length-append bytes more) in
        let place : (floor + i) % size ≡ at % size + k = ap (λ x. x % size) (the_sum i le) ∙ place_past size at k some (omega arith) in
        let segment : (floor + i) / size ≡ at / size = ap (λ x. x / size) (the_sum i le)
        ∙ same_segment_past size at k some (omega arith) in
        let there : file_at size now path (floor + i) ≡ file = ap (λ x. content (now (segment_file size path x))) segment
        ∙ ap content (put_at folder name (Some file)) in (
          subst (λ (f : List ℕ). (floor + i) % size < length f) (sym there) (omega (
            arith,
            length-overwritten (content (folder name)) (at % size) more,
          )),
          ap (λ (f : List ℕ). get_or f ((floor + i) % size) 0) there ∙ ap (λ x. get_or file x 0) place
              ∙ get_or-overwritten-there (content (folder name)) (at % size) more k few
              ∙ sym (get_or-append_right bytes more (length bytes) i 0 refl le),
        )
      where
        the_sum : (i : ℕ) → length bytes ≤ i → floor + i ≡ at + (i - length bytes)
        the_sum i le = omega arith

-- ---- a sync

-- bytes of which those from n on stand in one segment, whose file is as it reads
pub carries_synced : (size : ℕ) (path : Path) (floor : ℕ) (bytes : List ℕ) (n segment : ℕ) (folder before image : Folder)
    → Carries size folder path floor bytes → Carries size before path floor (take n bytes)
    → ((i : ℕ) → n ≤ i → i < length bytes → (floor + i) / size ≡ segment)
    → Syncs (segment_file size path segment) (folder (segment_file size path segment)) before image
    → Carries size image path floor bytes
carries_synced size path floor bytes n segment folder before image reads synced tail syncs = record {
  there = λ i lt. (each i lt).0;
  same = λ i lt. (each i lt).1;
}
  where
    name : List ℕ
    name = segment_file size path segment

    Has : ℕ → Type 0
    Has i = ((floor + i) % size < length (file_at size image path (floor + i)))
        × (get_or (file_at size image path (floor + i)) ((floor + i) % size) 0 ≡ get_or bytes i 0)

    as_it_reads : (i : ℕ) → i < length bytes → segment_file size path ((floor + i) / size) ≡ name → Has i
    as_it_reads i lt one =
        let file : image (segment_file size path ((floor + i) / size)) ≡ folder (segment_file size path ((floor + i) / size)) =
        ap image one ∙ ap (λ f. f name) syncs ∙ put_at before name (folder name) ∙ ap folder (sym one) in (
          subst (λ (f : Option (List ℕ)). (floor + i) % size < length (content f)) (sym file) (reads.there i lt),
          ap (λ (f : Option (List ℕ)). get_or (content f) ((floor + i) % size) 0) file ∙ reads.same i lt,
        )

    as_before : (i : ℕ) → i < length bytes → (segment_file size path ((floor + i) / size) ≡ name → ⊥) → Has i
    as_before i lt apart =
        let below : i < n = ⊎_elim (λ l. l) (λ l. absurd (apart (ap (segment_file size path) (tail i l lt)))) (cases_lt i n) in
        let within : i < length (take n bytes) = omega (arith, length-take n bytes) in
        let file : image (segment_file size path ((floor + i) / size)) ≡ before (segment_file size path ((floor + i) / size)) =
        ap (λ f. f (segment_file size path ((floor + i) / size))) syncs
        ∙ put_other before name (segment_file size path ((floor + i) / size)) (folder name) apart in (
          subst (λ (f : Option (List ℕ)). (floor + i) % size < length (content f)) (sym file) (synced.there i within),
          ap (λ (f : Option (List ℕ)). get_or (content f) ((floor + i) % size) 0) file ∙ synced.same i within
              ∙ get_or-take n bytes i 0 below,
        )

    decide : (i : ℕ) → i < length bytes → (b : Bool) → bytes_eq (segment_file size path ((floor + i) / size)) name ≡ b → Has i
    decide i lt true is = as_it_reads i lt ((bytes_eq-Decides (segment_file size path ((floor + i) / size)) name).0 is)
    decide i lt false is = as_before i lt (λ one.
        let yes = (bytes_eq-Decides (segment_file size path ((floor + i) / size)) name).1 one in
        let clash : true ≡ false = sym yes ∙ is in
        cc)

    each : (i : ℕ) → i < length bytes → Has i
    each i lt = decide i lt (bytes_eq (segment_file size path ((floor + i) / size)) name) refl
