-- How a promotion ends.
use Rattle.std.proofs.Common.{◌≡◌, ℕ, ◌-◌, ◌^◌, ◌<◌, ◌≤◌, ◌⊎◌, true, false, max, [], length, codes, Option, None, Result, Ok, Err, refl, sym, ap, ◌∙◌, subst, inl, inr, arith}
use Rattle.std.proofs.lemmas.Bool.{cases_Bool}
use Rattle.repl_control.specs.Control.{IsControl}
use Rattle.repl_control.specs.declared.control.Control.{Control}
use Rattle.repl_control.specs.declared.control.Role.{Role}
use Rattle.repl_control.specs.declared.control.Role.TheVariants.{Primary, Standby}
use Rattle.repl_disk.specs.Folder.{Folder}
use Rattle.repl_disk.specs.Runs.{told_so}
use Rattle.repl_disk.specs.State.{DiskState}
use Rattle.repl_lsn.proofs.Order.{last_switch_push}
use Rattle.repl_lsn.specs.Between.{AreBetween}
use Rattle.repl_lsn.specs.History.{Path, canonical, last_switch}
use Rattle.repl_lsn.specs.Segment.{IsSegSize}
use Rattle.repl_lsn.specs.declared.history.TheConstants.{HISTORY_LIMIT}
use Rattle.repl_record.specs.Walker.{identity, last_end, last_start, Stands as WalkerStands}
use Rattle.repl_record.specs.declared.walker.Walker.{Walker}
use Rattle.repl_store.specs.Backing.{Backs, Before, CanFlush, CanSwitch, Either, State, flushed, flushed_control, heard, switched, Comes as StoreComes}
use Rattle.repl_store.specs.Durable.{Durable, IsKnown}
use Rattle.repl_store.specs.Head.{Head, Held, IsHead, Stands, status_of}
use Rattle.repl_store.specs.declared.fault.StoreFault.{StoreFault}
use Rattle.repl_store.specs.declared.fault.StoreFault.TheVariants as store
use Rattle.repl_store.specs.declared.store.StoreStatus.{StoreStatus}
use Rattle.repl_wal.specs.Faults.{of_store, stopped_by}
use Rattle.repl_wal.specs.Holding.{Comes, HeldLog, Holds, Remembers, Runs, held_of, memory_of, store_of}
use Rattle.repl_wal.specs.Promoting.{CanBegin, HasHeard, IsChildless, IsPromoteRefusal, IsPromoted, PartlyPromotes, PromoteLeaves, Promotes, child_of, flushed_first, next_number, promoted}
use Rattle.repl_wal.specs.State.{EndsLast, LogState, flushed_log, heard_log, own_timeline, path_of, role_of, status_of_log, whole_end, written_end}
use Rattle.repl_wal.specs.declared.fault.NodeFault.{NodeFault}
use Rattle.repl_wal.specs.declared.fault.NodeFault.TheVariants as fault
use Rattle.repl_wal.proofs.Chaining.{Reaches, ends_there, reaches_on, starts, stays, stops}
use Rattle.repl_wal.proofs.Ending.{failure, not_broken, ok_sound, role_told, running, same_status, still_sound, untold, untold_holds}
use Rattle.repl_wal.proofs.Reading.{at_same}
use Rattle.repl_wal.proofs.Running.{can_flush, flushed_runs, marks, still_runs, walked_last}
use Rattle.repl_wal.proofs.StoreCalls.{Certain, Goes, Lists}
use Rattle.repl_wal.proofs.Switching.{can_switch, heard_runs, last_within, switched_runs}

-- ---- the parts of the call

-- it began on a standby
pub record Begun {D : Type 0} (disk : DiskState) (old : HeldLog D) (before : StoreStatus) : Type 0 where
  pub only : (image : Folder) → disk.left_since disk.moment image → disk.may_leave image
  pub none : old.log.stopped ≡ None
  pub is : IsHead old.log.head
  pub told : before ≡ status_of old.log.head
  pub standby : before.role ≡ Standby

-- the child was made
pub record Chooses (w : Walker) (own path : Path) (before : StoreStatus) (at_least listed known whole last : ℕ) (child : Path) : Type 0 where
  pub same : path ≡ own
  pub greatest : known ≡ max listed before.tli
  pub ends : whole ≡ last_end w
  pub starts : last ≡ last_start w
  pub left : known < 2 ^ 32 - 1
  pub is_child : child ≡ child_of path (next_number at_least known) whole
  pub short : length (canonical child) ≤ HISTORY_LIMIT

-- ---- how it ends

-- so it ends, from a log that it began in
abbrev pub Ends : {D : Type 0} → (D → DiskState) → HeldLog D → HeldLog D → ℕ → Result (ℕ × ℕ) NodeFault → LogState → Type 0
Ends state old new at_least result n = Holds (state old.disk) old.log n
    → Comes result (state old.disk) (state new.disk) new.log n (Promotes n at_least result) (PromoteLeaves n at_least)

-- from whichever it began in, it ends in one
pub remembers : {D : Type 0} (state : D → DiskState) (old new : HeldLog D) (at_least : ℕ) (result : Result (ℕ × ℕ) NodeFault) (n : LogState)
    → Remembers old.log n → ((m : LogState) → Ends state old new at_least result m) → (m : LogState) × Remembers new.log m
remembers state old new at_least result n was ends =
    let comes = ends (untold n) (untold_holds (state old.disk) old n was) in
    (comes.next, comes.holds.remembers)

-- ---- up to the listing

module _ {D : Type 0} (disk mid : DiskState) (old : HeldLog D) (now : Held D) (n : LogState) (at_least : ℕ) (before : StoreStatus)
    (begun : Begun disk old before) (holds : Holds disk old.log n) where
  abbrev runs_of : (n.broken ≡ false) × (old.log.failed ≡ false) × Runs old.log.head old.log.walker n
  runs_of = running old n begun.none holds.remembers

  pub is_standby : role_of n ≡ Standby
  is_standby = sym (role_told before old.log.head n begun.told runs_of.2.control) ∙ begun.standby

  pub as_log : before ≡ status_of_log n
  as_log = begun.told ∙ same_status old.log.head old.log.walker n runs_of.2

  begins_here : Reaches disk disk old n n (PromoteLeaves n at_least)
  begins_here = starts disk old n (PromoteLeaves n at_least) begun.only begun.none holds (λ d was. inl was)

  abbrev first_log : HeldLog D
  first_log = held_of now old.log.walker old.log.stopped

  -- the listing was refused
  pub unlisted : (f : StoreFault) (e : NodeFault) (stopped : Option StoreStatus) → Lists disk mid (store_of old) now (Err f) → e ≡ of_store f
      → stopped ≡ stopped_by f old.log.stopped before
      → Comes {A = ℕ × ℕ} (Err e) disk mid (memory_of now old.log.walker stopped) n (Promotes n at_least (Err e))
      (PromoteLeaves n at_least)
  unlisted f e stopped lists answer left =
      let column = PromoteLeaves n at_least in
      let runs = runs_of in
      let same : (s : State) → Backs disk old.log.head s → StoreComes {A = ℕ} (Err f) disk mid now.head (Before s) s (λ t. t ≡ s) = lists.comes in
      let comes : n.told ≡ true → StoreComes {A = ℕ} (Err f) disk mid now.head (Before n.kept) n.kept (λ t. t ≡ n.kept) = λ t.
      same n.kept (holds.backs t runs.0) in
      let at = at_same old.log.head now.head lists.head in
      stops disk disk mid old now n n (Before n.kept) column n.kept (λ t. t ≡ n.kept) begins_here begun.none (λ d was. inl was)
      (at.same_size ∙ runs.2.size) (IsPromoteRefusal n at_least) (role_of n ≡ Standby) (IsPromoted n at_least) (PartlyPromotes n at_least) f before
      runs.0 is_standby as_log (at.same_path ∙ runs.2.path) lists.caused comes e stopped (not_broken f old.log.failed runs.1 lists.broken)
      (λ wanted. (n, inl refl, stays disk mid old now n (Before n.kept) n.kept f begun.none holds at lists.breaks wanted comes)) answer left

  module _ (listed : ℕ) (lists : Lists disk mid (store_of old) now (Ok listed)) where
    pub has_asked : Reaches disk mid first_log n n (PromoteLeaves n at_least)
    has_asked =
        let runs = runs_of in
        reaches_on disk disk mid old now n n (Before n.kept) (PromoteLeaves n at_least) n.kept (λ t. t ≡ n.kept) begins_here begun.none
        (λ d was. inl was) (ap (λ (h : Head). h.size) lists.head ∙ runs.2.size) listed old.log.walker n refl
        (inl (
          begun.none,
          runs.0,
          ok_sound listed old.log.failed now.broken runs.1 lists.breaks,
          subst (λ (h : Head). Runs h old.log.walker n)
              (sym lists.head) runs.2,
        )) refl lists.caused lists.lacks (λ t. lists.comes n.kept (holds.backs t runs.0))

    -- the greatest number, and the own one, is what was heard of
    pub has_heard : (known : ℕ) → known ≡ max listed before.tli → HasHeard n known
    has_heard known is =
        let runs = runs_of in
        let head = old.log.head in
        let own : before.tli ≡ own_timeline n = ap (λ (s : StoreStatus). s.tli) as_log in
        let same : head.control.tli ≡ own_timeline n = ap (λ (c : Control). c.tli) runs.2.control in (
          omega (arith, is, own),
          λ t.
              let backs = holds.backs t runs.0 in
              let is_known = told_so disk.files backs.folder (λ folder. IsKnown folder head.control.tli listed) backs.told lists.known in
              omega (arith, is, own, same, is_known.above, lists.of_state n.kept backs),
        )

    -- the path was left last before the last whole record ended
    pub past : (path : Path) (whole : ℕ) → path ≡ now.head.path → whole ≡ last_end old.log.walker → last_switch path.parents ≤ whole
    past path whole path_is whole_is =
        let m = marks old.log.head old.log.walker n begun.is runs_of.2 in
        let head = old.log.head in
        let ends : head.control.whole ≡ whole_end n = ap (λ (c : Control). c.whole) runs_of.2.control in
        let same : head.path ≡ path = ap (λ (h : Head). h.path) (sym lists.head) ∙ sym path_is in
        let least = last_within head.size head.control.whole path.parents (subst (λ (p : Path). AreBetween head.size head.control.whole p.parents) same
        begun.is.between) in
        omega (arith, least, ends, m.after, whole_is)

    -- no child was made
    pub childless : (path : Path) (known whole : ℕ) (e : NodeFault) → path ≡ now.head.path → known ≡ max listed before.tli
        → whole ≡ last_end old.log.walker → IsChildless path known at_least whole e
        → Comes {A = ℕ × ℕ} (Err e) disk mid first_log.log n (Promotes n at_least (Err e)) (PromoteLeaves n at_least)
    childless path known whole e path_is known_is whole_is is =
        let runs = runs_of in
        let greatest : EndsLast n whole (last_start old.log.walker) = subst (λ (k : ℕ). EndsLast n k (last_start old.log.walker)) (sym whole_is)
        (walked_last old.log.head old.log.walker n begun.is runs.2) in
        let own : path ≡ path_of n = path_is ∙ ap (λ (h : Head). h.path) lists.head ∙ runs.2.path in
        let here : IsChildless (path_of n) known at_least whole e = subst (λ (p : Path). IsChildless p known at_least whole e) own is in
        let said = refuses e known whole (last_start old.log.walker) (has_heard known known_is) runs.0 greatest here in
        ends_there (Err e) disk mid first_log n n (Promotes n at_least (Err e)) (PromoteLeaves n at_least) has_asked said.0 (λ failed.
        said.1 (failure e failed))
      where
        refuses : (e : NodeFault) (known whole last : ℕ) → HasHeard n known → n.broken ≡ false → EndsLast n whole last
            → IsChildless (path_of n) known at_least whole e → Promotes n at_least (Err e) n × (e ≡ fault.DiskFault → ⊥)
        refuses fault.NoNumberLeft known whole last heard sound greatest is = (
          (sound, (is_standby, subst (HasHeard n) is heard), refl),
          λ no. absurd cc,
        )
        refuses (fault.HistoryFull have) known whole last heard sound greatest is = (
          (
            sound,
            (
              next_number at_least known,
              whole,
              last,
              record {
                standby = is_standby;
                known = known;
                heard = heard;
                left = is.0;
                number = refl;
                greatest = greatest;
              },
              is.1,
              is.2,
            ),
            refl,
          ),
          λ no. absurd cc,
        )
        refuses fault.Memory known whole last heard sound greatest is = ((sound, inl refl), λ no. absurd cc)
        refuses e known whole last heard sound greatest is = absurd is

    -- ---- with a child

    module _ (known whole last : ℕ) (path child : Path)
        (chooses : Chooses old.log.walker now.head.path path before at_least listed known whole last child) where
      abbrev tli : ℕ
      tli = next_number at_least known

      abbrev Named : Path → Path
      Named p = child_of p tli whole

      abbrev made : Path
      made = Named (path_of n)

      child_is : child ≡ made
      child_is = chooses.is_child ∙ ap Named (chooses.same ∙ ap (λ (h : Head). h.path) lists.head ∙ runs_of.2.path)

      pub can_begin : CanBegin n at_least tli whole last
      can_begin =
          let greatest : EndsLast n whole last = subst (λ (e : ℕ). EndsLast n e last) (sym chooses.ends)
          (subst (EndsLast n (last_end old.log.walker)) (sym chooses.starts) (walked_last old.log.head old.log.walker n begun.is runs_of.2)) in
          record {
            begins = record {
              standby = is_standby;
              known = known;
              heard = has_heard known chooses.greatest;
              left = chooses.left;
              number = refl;
              greatest = greatest;
            };
            short = subst (λ (p : Path). length (canonical p) ≤ HISTORY_LIMIT) child_is chooses.short;
          }

      -- ---- the flush

      module _ (new : DiskState) (second : Held D) where
        abbrev second_log : HeldLog D
        second_log = held_of second old.log.walker old.log.stopped

        asked_runs : (n.broken ≡ false) × (now.broken ≡ false) × Runs now.head old.log.walker n
        asked_runs = running first_log n begun.none has_asked.holds.remembers

        asked_is : IsHead now.head
        asked_is = subst IsHead (sym lists.head) begun.is

        not_primary : (role : Role) → role ≡ role_of n → role ≡ Primary → last_end old.log.walker ≡ written_end n
        not_primary role same is = let clash : Standby ≡ Primary = sym is_standby ∙ sym same ∙ is in absurd cc

        role_is : now.head.control.role ≡ role_of n
        role_is = ap (λ (c : Control). c.role) asked_runs.2.control

        pub can_certain : CanFlush now.head now.head.control.role whole last
        can_certain =
            let can = can_flush now.head old.log.walker n now.head.control.role asked_is asked_runs.2 (not_primary now.head.control.role role_is) in
            subst (λ (e : ℕ). CanFlush now.head now.head.control.role e last) (sym chooses.ends)
            (subst (CanFlush now.head now.head.control.role (last_end old.log.walker)) (sym chooses.starts) can)

        -- what a crash in the flush leaves
        flush_leaves : (d : Durable) → Either n.kept.durable (flushed n.kept now.head.control.role whole last).durable d → PromoteLeaves n at_least d
        flush_leaves d (inl was) = inl was
        flush_leaves d (inr did) = inr (
          tli,
          whole,
          last,
          can_begin,
          inl (did ∙ ap (λ (r : Role). (flushed n.kept r whole last).durable) role_is),
        )

        pub unflushed : (f : StoreFault) (e : NodeFault) (stopped : Option StoreStatus) → Certain mid new now second whole last (Err f) → e ≡ of_store f
            → stopped ≡ stopped_by f old.log.stopped before
            → Comes {A = ℕ × ℕ} (Err e) disk new (memory_of second old.log.walker stopped) n (Promotes n at_least (Err e))
            (PromoteLeaves n at_least)
        unflushed f e stopped certain answer left =
            let runs = asked_runs in
            let few = Either n.kept.durable (flushed n.kept now.head.control.role whole last).durable in
            let done = flushed n.kept now.head.control.role whole last in
            let comes : n.told ≡ true → StoreComes {A = Unit {0}} (Err f) mid new second.head few done (λ t. t ≡ n.kept) = λ t.
            certain.comes n.kept (has_asked.holds.backs t runs.0) in
            let at = certain.stays in
            stops disk mid new first_log second n n few (PromoteLeaves n at_least) done (λ t. t ≡ n.kept) has_asked begun.none flush_leaves
            (at.same_size ∙ runs.2.size) (IsPromoteRefusal n at_least) (role_of n ≡ Standby) (IsPromoted n at_least) (PartlyPromotes n at_least) f
            before runs.0 is_standby as_log (at.same_path ∙ runs.2.path) certain.caused comes e stopped (not_broken f now.broken runs.1
            certain.broken) (λ wanted. (
              n,
              inl refl,
              stays mid new first_log second n few done f begun.none has_asked.holds at certain.breaks wanted
                  comes,
            )) answer left

        -- ---- the flushed log

        module _ (flushes : Certain mid new now second whole last (Ok tt)) where
          abbrev first : LogState
          first = flushed_first n whole last

          certain_runs : Runs second.head old.log.walker first
          certain_runs =
              let As : Role → ℕ → ℕ → Type 0 = λ r. λ e. λ l. (r ≡ role_of n) → Stands second.head now.head.size
              (flushed_control now.head.control r now.head.written e l) now.head.path now.head.written
              → Runs second.head old.log.walker (flushed_log n r e l) in
              let here : As now.head.control.role (last_end old.log.walker) (last_start old.log.walker) = λ same. flushed_runs now.head second.head
              old.log.walker n
              now.head.control.role asked_is asked_runs.2 (not_primary now.head.control.role same) in
              let there : As now.head.control.role whole last = subst (λ (e : ℕ). As now.head.control.role e last) (sym chooses.ends)
              (subst (As now.head.control.role (last_end old.log.walker)) (sym chooses.starts) here) in
              subst (λ (r : Role). Runs second.head old.log.walker (flushed_log n r whole last)) role_is (there role_is flushes.ok)

          certain_remembers : Remembers second_log.log first
          certain_remembers = inl (begun.none, asked_runs.0, ok_sound tt now.broken second.broken asked_runs.1 flushes.breaks, certain_runs)

          pub has_flushed : Reaches disk new second_log n first (PromoteLeaves n at_least)
          has_flushed = reaches_on disk mid new first_log second n n (Either n.kept.durable (flushed n.kept now.head.control.role whole last).durable)
              (PromoteLeaves n at_least) (flushed n.kept now.head.control.role whole last) (λ t. t ≡ n.kept) has_asked begun.none flush_leaves
              (flushes.ok.same_size ∙ asked_runs.2.size) tt old.log.walker first refl certain_remembers
              (ap (λ (r : Role). flushed n.kept r whole last) role_is)
              flushes.caused flushes.lacks (λ t. flushes.comes n.kept (has_asked.holds.backs t asked_runs.0))

          -- the flushed control is right, and so is the one on the child
          pub can_go : CanSwitch second.head child Primary whole last
          can_go =
              let stands = flushes.ok in
              let right : IsControl second.head.size second.head.control = subst (λ (k : ℕ). IsControl k second.head.control) (sym stands.same_size)
              (subst (IsControl now.head.size) (sym stands.same_control) can_certain.0) in
              let between : AreBetween second.head.size whole second.head.path.parents = subst (λ (k : ℕ). AreBetween k whole
              second.head.path.parents) (sym stands.same_size) (subst (λ (p : Path). AreBetween now.head.size whole p.parents) (sym stands.same_path)
              can_certain.1) in
              let ends : whole ≡ second.head.control.whole = sym (ap (λ (c : Control). c.whole) stands.same_control) in
              let starts : second.head.control.prev ≡ last = ap (λ (c : Control). c.prev) stands.same_control in
              let named : Named second.head.path ≡ child = ap Named (stands.same_path ∙ sym chooses.same) ∙ sym chooses.is_child in
              let short : length (canonical (Named second.head.path)) ≤ HISTORY_LIMIT = subst (λ (p : Path). length (canonical p) ≤ HISTORY_LIMIT)
              (sym named) chooses.short in
              subst (λ (p : Path). CanSwitch second.head p Primary whole last) named (subst (CanSwitch second.head (Named second.head.path) Primary
              whole) starts (can_switch second.head Primary tli whole right between ends short))

          -- ---- going over

          module _ (end : DiskState) (third : Held D) where
            -- what a crash in it leaves
            abbrev Few : Durable → Type 0
            Few d = (d ≡ first.kept.durable) ⊎ (d ≡ heard first.kept.durable tli) ⊎ (d ≡ switched first.kept.durable made Primary whole last)

            abbrev Some_of : State → Type 0
            Some_of t = (t ≡ first.kept) ⊎ (t ≡ record { durable = heard first.kept.durable tli; unflushed = first.kept.unflushed })

            go_leaves : (d : Durable) → Few d → PromoteLeaves n at_least d
            go_leaves d few = inr (tli, whole, last, can_begin, few)

            abbrev went : State
            went = (promoted n tli whole last).kept

            as_made : (result : Result (Unit {0}) StoreFault) → Goes new end second third child whole last result
                → Goes new end second third made whole last result
            as_made result goes = subst (λ (p : Path). Goes new end second third p whole last result) child_is goes

            pub ungone : (f : StoreFault) (e : NodeFault) (stopped : Option StoreStatus) → Goes new end second third child whole last (Err f)
                → e ≡ of_store f → stopped ≡ stopped_by f old.log.stopped before
                → Comes {A = ℕ × ℕ} (Err e) disk end (memory_of third old.log.walker stopped) n (Promotes n at_least (Err e))
                (PromoteLeaves n at_least)
            ungone f e stopped given answer left =
                let goes = as_made (Err f) given in
                let runs = running second_log first begun.none certain_remembers in
                let comes : n.told ≡ true → StoreComes {A = Unit {0}} (Err f) new end third.head Few went Some_of = λ t.
                goes.comes first.kept (has_flushed.holds.backs t runs.0) in
                let at = goes.stays in
                let Fails : StoreFault → Result (Unit {0}) StoreFault = λ e. Err e in
                let still : Runs third.head old.log.walker first = still_runs second.head third.head old.log.walker first certain_runs at in
                let Left : LogState → Type 0 = λ x. Holds end (memory_of third old.log.walker old.log.stopped) x in
                let wants : f ≡ store.Memory → (x : LogState) × PartlyPromotes n at_least x × Left x = λ wanted.
                let quiet = still_sound f second.broken third.broken wanted runs.1 goes.breaks in
                let flushed_only : (n.told ≡ true → Backs end third.head first.kept) → (x : LogState) × PartlyPromotes n at_least x × Left x = λ backs. (
                  first,
                  inr (tli, whole, last, can_begin, inl refl),
                  record { remembers = inl (begun.none, runs.0, quiet, still); backs = λ t b. backs t },
                ) in
                elim (cases_Bool n.told) [
                  | inl t ↦
                      let found = (comes t).no_memory (ap Fails wanted) in
                      elim found.1 [
                        | inl was ↦ flushed_only (λ t. subst (Backs end third.head) was found.2)
                        | inr more ↦ (
                          heard_log first tli,
                          inr (tli, whole, last, can_begin, inr refl),
                          record {
                            remembers = inl (begun.none, runs.0, quiet, heard_runs third.head old.log.walker first tli still);
                            backs = λ t b. subst (Backs end third.head) more found.2;
                          },
                        )
                      ]
                  | inr untold ↦ flushed_only (λ t. absurd cc)
                ] in
                stops disk new end second_log third n first Few (PromoteLeaves n at_least) went Some_of has_flushed begun.none go_leaves
                (at.same_size ∙ runs.2.size) (IsPromoteRefusal n at_least) (role_of n ≡ Standby) (IsPromoted n at_least) (PartlyPromotes n at_least) f
                before runs.0 is_standby as_log (at.same_path ∙ runs.2.path) goes.caused comes e stopped (not_broken f second.broken runs.1
                goes.broken) wants answer left

            pub gone : (next : Walker) (own : ℕ) → Goes new end second third child whole last (Ok tt)
                → ((timeline : ℕ → ℕ) → WalkerStands next timeline whole last []) → identity next ≡ before.ident → own ≡ child.own
                → Comes {A = ℕ × ℕ} (Ok (own, whole)) disk end (memory_of third next old.log.stopped) n
                (Promotes n at_least (Ok (own, whole))) (PromoteLeaves n at_least)
            gone next own given walker ident own_is =
                let goes = as_made (Ok tt) given in
                let runs = running second_log first begun.none certain_remembers in
                let can : CanSwitch second.head made Primary whole last = subst (λ (p : Path). CanSwitch second.head p Primary whole last) child_is can_go in
                let left : last_switch made.parents ≡ whole = last_switch_push (path_of n).parents (record {
                  tli = (path_of n).own;
                  switch = whole;
                  reason = codes "promoted";
                }) in
                let size = subst IsSegSize (sym flushes.ok.same_size) asked_is.size in
                let now_runs : Runs third.head next (promoted n tli whole last) = switched_runs second.head third.head old.log.walker next first made
                Primary
                whole last size can left certain_runs runs.0 goes.ok walker (ident ∙ ap (λ (s : StoreStatus). s.ident) as_log) in
                let reached = reaches_on disk new end second_log third n first Few (PromoteLeaves n at_least) went Some_of has_flushed begun.none go_leaves
                (goes.ok.same_size ∙ runs.2.size) tt next (promoted n tli whole last) refl
                (inl (begun.none, runs.0, ok_sound tt second.broken third.broken runs.1 goes.breaks, now_runs)) refl goes.caused goes.lacks
                (λ t. goes.comes first.kept (has_flushed.holds.backs t runs.0)) in
                let number : own ≡ tli = own_is ∙ ap (λ (p : Path). p.own) child_is in
                let Goes_by : ℕ → Type 0 = λ k. Comes {A = ℕ × ℕ} (Ok (k, whole)) disk end (memory_of third next old.log.stopped) n
                (Promotes n at_least (Ok (k, whole))) (PromoteLeaves n at_least) in
                let here : Goes_by tli = ends_there (Ok (tli, whole)) disk end (held_of third next old.log.stopped) n
                (promoted n tli whole last) (Promotes n at_least (Ok (tli, whole))) (PromoteLeaves n at_least) reached
                (runs.0, is_standby, record { last = last; can = can_begin; becomes = refl }) (λ no. absurd cc) in
                subst Goes_by (sym number) here
