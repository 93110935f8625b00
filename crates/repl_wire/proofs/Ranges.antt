-- A length field is in range exactly where some message of the type has one that is no greater, and the limit is not passed.
use Rattle.std.proofs.Common.{◌≡◌, ℕ, ◌+◌, ◌<◌, ◌≤◌, Bool, true, false, cond, eqb, List, [], ◌∷◌, length, take, Option, Some, None, refl, sym, ap, subst, ◌∙◌, arith, ◌⊎◌}
use Rattle.std.specs.Option.{option_map}
use Rattle.std.proofs.lemmas.Bool.{eqb-true}
use Rattle.std.proofs.lemmas.List.{length-append}
use Rattle.std.proofs.lemmas.List.Elements.{All-nil}
use Rattle.repl_message.specs.declared.startup.Startup.{Startup}
use Rattle.repl_message.specs.declared.startup.Startup.TheVariants as startup
use Rattle.repl_message.specs.declared.front.Front.{Front}
use Rattle.repl_message.specs.declared.front.Front.TheVariants as front
use Rattle.repl_message.specs.declared.back.TransactionStatus.TheVariants.{Idle}
use Rattle.repl_message.specs.declared.back.Back.{Back}
use Rattle.repl_message.specs.declared.back.Back.TheVariants as back
use Rattle.repl_message.specs.declared.message.Phase.TheVariants as phase
use Rattle.repl_message.specs.declared.message.Message.{Message}
use Rattle.repl_message.specs.declared.message.Message.TheVariants as message
use Rattle.repl_message.specs.declared.message.Side.TheVariants as side
use Rattle.repl_message.specs.declared.message.TheConstants.{STARTUP_LEAST, STARTUP_LIMIT, MESSAGE_LIMIT, COPY_DATA_LIMIT}
use Rattle.repl_message.specs.Message.{startup_body, front_kind, front_body, front_limit, back_kind, back_body, back_limit, length_field, spelling, Belongs, IsFront, IsBack}
use Rattle.repl_text.specs.Text.{IsText}
use Rattle.repl_wire.specs.Judging.{Row, back_row, front_lengths, lengths_of}
use Rattle.repl_wire.specs.Head.{IsInRange, limit_of}
use Rattle.repl_wire.proofs.ServerBodies.{has_row}

abbrev no_text : IsText []
no_text = All-nil (λ (b : ℕ). (0 < b) × (b < 256))

-- ---- startup packets

packets_long : (m : Startup) → 4 ≤ length (startup_body m)
packets_long (startup.Params pairs) = omega arith
packets_long startup.Ssl = omega arith
packets_long startup.Gss = omega arith
packets_long (startup.Cancel pid key) = omega arith

pub startup_range : (said : ℕ) → STARTUP_LEAST ≤ said → said ≤ STARTUP_LIMIT → IsInRange phase.Startup [] said
startup_range said low high = record {
  shortest = message.Startup startup.Ssl;
  belongs = record { fits = tt; within = omega arith };
  typed = refl;
  low = omega (arith, low);
  high = omega (arith, high);
}

pub startup_outside : (kind : List ℕ) (said : ℕ) → (said < STARTUP_LEAST) ⊎ (STARTUP_LIMIT < said) → ¬ IsInRange phase.Startup kind said
startup_outside kind said outside r = by_message r.shortest r.belongs r.low r.high
  where
    by_message : (m : Message) → Belongs phase.Startup m → length_field m ≤ said → said ≤ limit_of m → ⊥
    by_message (message.Startup m) belongs low high = omega (arith, packets_long m, low, high, outside)
    by_message (message.Front m) belongs low high = absurd belongs
    by_message (message.Back m) belongs low high = absurd belongs

-- ---- a client's messages

record IsShortestFront (kind : ℕ) (l : ℕ × ℕ) : Type 0 where
  its : Front
  is : IsFront its
  kind_is : front_kind its ≡ kind
  least : length (front_body its) + 4 ≡ l.0
  limit_is : front_limit its ≡ l.1

abbrev HasFront : ℕ → Option (ℕ × ℕ) → Type 0
HasFront kind None = Unit {0}
HasFront kind (Some l) = IsShortestFront kind l

front_choice : (kind known : ℕ) (o other : Option (ℕ × ℕ)) → (known ≡ kind → HasFront kind o) → HasFront kind other
    → HasFront kind (cond (eqb kind known) o other)
front_choice kind known o other here past = by_test (eqb kind known) (λ e. here (sym (eqb-true kind known e)))
  where
    by_test : (b : Bool) → (b ≡ true → HasFront kind o) → HasFront kind (cond b o other)
    by_test true f = f refl
    by_test false f = past

front_shortest : (kind : ℕ) → HasFront kind (front_lengths kind)
front_shortest kind =
    front_choice kind 81 _ _ (λ e. record {
      its = front.Query [];
      is = record { fits = no_text; within = omega arith };
      kind_is = e;
      least = refl;
      limit_is = refl;
    })
    (front_choice kind 100 _ _ (λ e. record {
      its = front.CopyData [];
      is = record { fits = tt; within = omega arith };
      kind_is = e;
      least = refl;
      limit_is = refl;
    })
    (front_choice kind 99 _ _ (λ e. record {
      its = front.CopyDone;
      is = record { fits = tt; within = omega arith };
      kind_is = e;
      least = refl;
      limit_is = refl;
    })
    (front_choice kind 102 _ _ (λ e. record {
      its = front.CopyFail [];
      is = record { fits = no_text; within = omega arith };
      kind_is = e;
      least = refl;
      limit_is = refl;
    })
    (front_choice kind 88 _ _ (λ e. record {
      its = front.Terminate;
      is = record { fits = tt; within = omega arith };
      kind_is = e;
      least = refl;
      limit_is = refl;
    }) tt))))

-- every message has at least so many bytes, and this limit
front_all : (m : Front) (l : ℕ × ℕ) → front_lengths (front_kind m) ≡ Some l → (l.0 ≤ length (front_body m) + 4) × (front_limit m ≡ l.1)
front_all (front.Query text) l e =
    let least : 5 ≡ l.0 = cc in
    let most : MESSAGE_LIMIT ≡ l.1 = cc in
    (omega (arith, least, length-append text (0 ∷ [])), most)
front_all (front.CopyData bytes) l e =
    let least : 4 ≡ l.0 = cc in
    let most : COPY_DATA_LIMIT ≡ l.1 = cc in
    (omega (arith, least), most)
front_all front.CopyDone l e =
    let least : 4 ≡ l.0 = cc in
    let most : MESSAGE_LIMIT ≡ l.1 = cc in
    (omega (arith, least), most)
front_all (front.CopyFail text) l e =
    let least : 5 ≡ l.0 = cc in
    let most : MESSAGE_LIMIT ≡ l.1 = cc in
    (omega (arith, least, length-append text (0 ∷ [])), most)
front_all front.Terminate l e =
    let least : 4 ≡ l.0 = cc in
    let most : MESSAGE_LIMIT ≡ l.1 = cc in
    (omega (arith, least), most)

pub front_range : (kind said : ℕ) (l : ℕ × ℕ) → front_lengths kind ≡ Some l → l.0 ≤ said → said ≤ l.1
    → IsInRange phase.Front (kind ∷ []) said
front_range kind said l known low high =
    let s : IsShortestFront kind l = subst (HasFront kind) known (front_shortest kind) in
    record {
      shortest = message.Front s.its;
      belongs = s.is;
      typed = ap (λ (k : ℕ). k ∷ []) s.kind_is;
      low = omega (arith, s.least, low);
      high = omega (arith, s.limit_is, high);
    }

pub front_outside : (kind said : ℕ) (l : ℕ × ℕ) → front_lengths kind ≡ Some l → (said < l.0) ⊎ (l.1 < said)
    → ¬ IsInRange phase.Front (kind ∷ []) said
front_outside kind said l known outside r = by_message r.shortest r.belongs r.typed r.low r.high
  where
    by_message : (m : Message) → Belongs phase.Front m → take 1 (spelling m) ≡ kind ∷ [] → length_field m ≤ said → said ≤ limit_of m → ⊥
    by_message (message.Startup m) belongs typed low high = absurd belongs
    by_message (message.Back m) belongs typed low high = absurd belongs
    by_message (message.Front m) belongs typed low high =
        let same : front_kind m ≡ kind = cc in
        let all = front_all m l (ap front_lengths same ∙ known) in
        omega (arith, all.0, all.1, low, high, outside)

-- ---- a server's messages

record IsShortestBack (kind : ℕ) (r : Row) : Type 0 where
  its : Back
  is : IsBack its
  kind_is : back_kind its ≡ kind
  least : length (back_body its) ≡ r.least
  limit_is : back_limit its ≡ r.limit

abbrev HasBack : ℕ → Option Row → Type 0
HasBack kind None = Unit {0}
HasBack kind (Some r) = IsShortestBack kind r

back_choice : (kind known : ℕ) (o other : Option Row) → (known ≡ kind → HasBack kind o) → HasBack kind other
    → HasBack kind (cond (eqb kind known) o other)
back_choice kind known o other here past = by_test (eqb kind known) (λ e. here (sym (eqb-true kind known e)))
  where
    by_test : (b : Bool) → (b ≡ true → HasBack kind o) → HasBack kind (cond b o other)
    by_test true f = f refl
    by_test false f = past

back_shortest : (kind : ℕ) → HasBack kind (back_row kind)
back_shortest kind =
    back_choice kind 82 _ _ (λ e. record {
      its = back.AuthenticationOk;
      is = record { fits = tt; within = omega arith };
      kind_is = e;
      least = refl;
      limit_is = refl;
    })
    (back_choice kind 83 _ _ (λ e. record {
      its = back.ParameterStatus [] [];
      is = record {
        fits = (no_text, no_text);
        within = omega arith;
      };
      kind_is = e;
      least = refl;
      limit_is = refl;
    })
    (back_choice kind 75 _ _ (λ e. record {
      its = back.BackendKeyData 0 0;
      is = record {
        fits = (omega arith, omega arith);
        within = omega arith;
      };
      kind_is = e;
      least = refl;
      limit_is = refl;
    })
    (back_choice kind 90 _ _ (λ e. record {
      its = back.ReadyForQuery Idle;
      is = record { fits = tt; within = omega arith };
      kind_is = e;
      least = refl;
      limit_is = refl;
    })
    (back_choice kind 84 _ _ (λ e. record {
      its = back.RowDescription [];
      is = record { fits = (omega arith, tt); within = omega arith };
      kind_is = e;
      least = refl;
      limit_is = refl;
    })
    (back_choice kind 68 _ _ (λ e. record {
      its = back.DataRow [];
      is = record { fits = (omega arith, tt); within = omega arith };
      kind_is = e;
      least = refl;
      limit_is = refl;
    })
    (back_choice kind 67 _ _ (λ e. record {
      its = back.CommandComplete [];
      is = record { fits = no_text; within = omega arith };
      kind_is = e;
      least = refl;
      limit_is = refl;
    })
    (back_choice kind 69 _ _ (λ e. record {
      its = back.ErrorResponse [];
      is = record { fits = tt; within = omega arith };
      kind_is = e;
      least = refl;
      limit_is = refl;
    })
    (back_choice kind 78 _ _ (λ e. record {
      its = back.NoticeResponse [];
      is = record { fits = tt; within = omega arith };
      kind_is = e;
      least = refl;
      limit_is = refl;
    })
    (back_choice kind 100 _ _ (λ e. record {
      its = back.CopyData [];
      is = record { fits = tt; within = omega arith };
      kind_is = e;
      least = refl;
      limit_is = refl;
    })
    (back_choice kind 99 _ _ (λ e. record {
      its = back.CopyDone;
      is = record { fits = tt; within = omega arith };
      kind_is = e;
      least = refl;
      limit_is = refl;
    })
    (back_choice kind 87 _ _ (λ e. record {
      its = back.CopyBoth 0 [];
      is = record {
        fits = (omega arith, omega arith, tt);
        within = omega arith;
      };
      kind_is = e;
      least = refl;
      limit_is = refl;
    }) tt)))))))))))

-- the row whose lengths these are
some_row : (o : Option Row) (l : ℕ × ℕ) → option_map {U = ℕ × ℕ} (λ (x : Row). (x.least + 4, x.limit)) o ≡ Some l → (r : Row) × (o ≡ Some r)
    × (r.least + 4 ≡ l.0) × (r.limit ≡ l.1)
some_row None l e = absurd cc
some_row (Some r) l e =
    let both : (r.least + 4, r.limit) ≡ l = cc in
    (r, refl, ap (λ (x : ℕ × ℕ). x.0) both, ap (λ (x : ℕ × ℕ). x.1) both)

pub back_range : (kind said : ℕ) (l : ℕ × ℕ) → lengths_of side.Back kind ≡ Some l → l.0 ≤ said → said ≤ l.1
    → IsInRange phase.Back (kind ∷ []) said
back_range kind said l known low high =
    let row = some_row (back_row kind) l known in
    let s : IsShortestBack kind row.0 = subst (HasBack kind) row.1 (back_shortest kind) in
    record {
      shortest = message.Back s.its;
      belongs = s.is;
      typed = ap (λ (k : ℕ). k ∷ []) s.kind_is;
      low = omega (arith, s.least, row.2, low);
      high = omega (arith, s.limit_is, row.3, high);
    }

pub back_outside : (kind said : ℕ) (l : ℕ × ℕ) → lengths_of side.Back kind ≡ Some l → (said < l.0) ⊎ (l.1 < said)
    → ¬ IsInRange phase.Back (kind ∷ []) said
back_outside kind said l known outside r = by_message r.shortest r.belongs r.typed r.low r.high
  where
    by_message : (m : Message) → Belongs phase.Back m → take 1 (spelling m) ≡ kind ∷ [] → length_field m ≤ said → said ≤ limit_of m → ⊥
    by_message (message.Startup m) belongs typed low high = absurd belongs
    by_message (message.Front m) belongs typed low high = absurd belongs
    by_message (message.Back m) belongs typed low high =
        let row = some_row (back_row kind) l known in
        let its = has_row m belongs in
        let same : back_kind m ≡ kind = cc in
        let both : its.its ≡ row.0 = (let e = sym its.row_is ∙ ap back_row same ∙ row.1 in cc) in
        let least = ap (λ (x : Row). x.least) both in
        let most = ap (λ (x : Row). x.limit) both in
        omega (arith, its.low, its.limit_is, least, most, row.2, row.3, low, high, outside)
