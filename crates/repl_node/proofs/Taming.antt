-- Each call on a log leaves one that tells its files where it did before, with segments of the same size.
use Rattle.std.proofs.Common.{◌≡◌, ℕ, List, Result, ⊎_elim, refl, ap, ◌∙◌, Option}
use Rattle.repl_control.specs.declared.control.Role.TheVariants.{Primary, Standby}
use Rattle.repl_lsn.specs.History.{Path}
use Rattle.repl_record.specs.declared.record.RecordIn.{RecordIn}
use Rattle.repl_wal.specs.Following.{CanFollow, Follows, IsFollowRefusal, IsFollowed, PartlyFollows}
use Rattle.repl_wal.specs.Keeping.{IsTrimmed, PartlyTrims, Trims}
use Rattle.repl_wal.specs.Promoting.{IsPromoteRefusal, IsPromoted, PartlyPromotes, Promotes}
use Rattle.repl_wal.specs.Reading.{CanRead, IsRead, IsReadRefusal, Reads}
use Rattle.repl_wal.specs.State.{LogState, role_of}
use Rattle.repl_wal.specs.Steps.{Never, Only}
use Rattle.repl_wal.specs.Writing.{Appends, CanAppend, CanReceive, Demotes, Flushes, IsAppendRefusal, IsAppended, IsDemoteRefusal, IsDemoted, IsFlushed, IsReceiveRefusal, IsReceived, Receives}
use Rattle.repl_wal.specs.declared.fault.NodeFault.{NodeFault}
use Rattle.repl_wal.specs.declared.read.ReadOut.{ReadOut}
use Rattle.repl_node.specs.State.{NodeState}
use Rattle.repl_node.proofs.Passing.{Same, Tame, tame_step}

-- it is one of which that is known
same_as : (n m k : LogState) → m ≡ k → Same n k → Same n m
same_as n m k is keeps = (ap (λ (l : LogState). l.told) is ∙ keeps.0, ap (λ (l : LogState). l.size) is ∙ keeps.1)

only : (n m : LogState) → m ≡ n → Same n m
only n m is = same_as n m n is (refl, refl)

pub appends : (n : NodeState) (item : RecordIn) (result : Result ℕ NodeFault) → Tame n (Appends n.log item result)
appends n item result =
    tame_step (IsAppendRefusal n.log item) (CanAppend n.log item) (IsAppended n.log item) (Only n.log) n result (λ end m done. same_as n.log m _ done.becomes (refl, refl)) (only n.log)

pub receives : (n : NodeState) (tli start : ℕ) (bytes : List ℕ) (result : Result ℕ NodeFault) → Tame n (Receives n.log tli start bytes result)
receives n tli start bytes result =
    tame_step (IsReceiveRefusal n.log tli start bytes) (CanReceive n.log tli start bytes) (IsReceived n.log bytes) (Only n.log) n result (λ end m done. same_as n.log m _ done.1 (refl, refl)) (only n.log)

pub flushes : (n : NodeState) (result : Result ℕ NodeFault) → Tame n (Flushes n.log result)
flushes n result =
    tame_step Never (Unit {0}) (IsFlushed n.log) (Only n.log) n result (λ end m done. same_as n.log m _ done.1.3 (refl, refl)) (only n.log)

pub demotes : (n : NodeState) (result : Result (Unit {0}) NodeFault) → Tame n (Demotes n.log result)
demotes n result =
    tame_step (IsDemoteRefusal n.log) (role_of n.log ≡ Primary) (IsDemoted n.log) (Only n.log) n result (λ x m done. same_as n.log m _ done.3 (refl, refl)) (only n.log)

pub promotes : (n : NodeState) (at_least : ℕ) (result : Result (ℕ × ℕ) NodeFault) → Tame n (Promotes n.log at_least result)
promotes n at_least result =
    tame_step (IsPromoteRefusal n.log at_least) (role_of n.log ≡ Standby) (IsPromoted n.log at_least) (PartlyPromotes n.log at_least) n result
    (λ answer m done. same_as n.log m _ done.becomes (refl, refl)) (λ m some.
    ⊎_elim (only n.log m) (λ part. ⊎_elim (λ is. same_as n.log m _ is (refl, refl)) (λ is. same_as n.log m _ is (refl, refl)) part.4) some)

pub follows : (n : NodeState) (child : Path) (result : Result (Unit {0}) NodeFault) → Tame n (Follows n.log child result)
follows n child result =
    tame_step (IsFollowRefusal n.log child) (CanFollow n.log child) (IsFollowed n.log child) (PartlyFollows n.log child) n result (λ x m done. same_as n.log m _ done (refl, refl))
    (λ m some. ⊎_elim (only n.log m) (λ part. same_as n.log m _ part.1 (refl, refl)) some)

pub reads : (n : NodeState) (tli at : ℕ) (before after : List ℕ) (result : Result ReadOut NodeFault)
    → Tame n (Reads n.log tli at before after result)
reads n tli at before after result =
    tame_step (IsReadRefusal n.log tli at) (CanRead n.log tli at) (λ read m. IsRead n.log tli at before after read × (m ≡ n.log)) (Only n.log) n result (λ read m done. only n.log m done.1)
    (only n.log)

pub trims : (n : NodeState) (restart : Option ℕ) (keep : ℕ) (result : Result ℕ NodeFault) → Tame n (Trims n.log restart keep result)
trims n restart keep result =
    tame_step Never (Unit {0}) (IsTrimmed n.log restart keep) (PartlyTrims n.log restart keep) n result
    (λ floor m done. same_as n.log m _ done.1 (refl, refl))
    (λ m some. ⊎_elim (only n.log m) (λ is. same_as n.log m _ is (refl, refl)) some)
