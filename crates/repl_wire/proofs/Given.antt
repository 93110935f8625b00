-- What a reader has given of what was fed to it: nothing at first, then message by message and piece by piece.
use Rattle.std.proofs.Common.{◌≡◌, ℕ, ◌+◌, ◌-◌, ◌^◌, ◌<◌, ◌≤◌, List, [], ◌∷◌, ◌++◌, length, refl, sym, ap, subst, arith, append_assoc, length-append}
use Rattle.std.proofs.lemmas.List.{append-nil}
use Rattle.repl_message.specs.declared.message.Message.{Message}
use Rattle.repl_message.specs.Message.{Belongs, after, spelling}
use Rattle.repl_message.specs.Encoding.{capped}
use Rattle.repl_wire.specs.Reader.{Reading, AreRead, HasGiven, fed}
use Rattle.repl_wire.proofs.Streams.{read_then, read_more, read_within, read_one}

pub given_nothing : (r : Reading) → r.place < 2 ^ 64 → HasGiven r [] [] r
given_nothing r small = record { read = (refl, sym (append-nil r.rest)); place = omega (arith, small) }

-- places add up, where a, x and y are what was there and what was fed, and b and c what is left
places : (p q r a b c x y : ℕ) → b ≤ a + x → c ≤ b + y → q ≡ capped (p + (a + x - b)) → r ≡ capped (q + (b + y - c)) → r
    ≡ capped (p + (a + (x + y) - c))
places p q r a b c x y within further first second = omega arith

pub given_then : (old mid new : Reading) (bytes more : List ℕ) (ms ns : List Message) → HasGiven old bytes ms mid → HasGiven mid more ns new
    → HasGiven old (bytes ++ more) (ms ++ ns) new
given_then old mid new bytes more ms ns first second =
    let all = read_more old.phase mid.phase (old.rest ++ bytes) mid.rest more ms first.read in
    let read = read_then old.phase mid.phase new.phase ((old.rest ++ bytes) ++ more) (mid.rest ++ more) new.rest ms ns all second.read in
    let within = read_within old.phase mid.phase (old.rest ++ bytes) mid.rest ms first.read in
    let further = read_within mid.phase new.phase (mid.rest ++ more) new.rest ns second.read in
    let sum = places old.place mid.place new.place (length old.rest) (length mid.rest) (length new.rest) (length bytes) (length more)
    (omega (arith, within, length-append old.rest bytes)) (omega (arith, further, length-append mid.rest more)) first.place second.place
    in
    record {
      read = subst (λ (b : List ℕ). AreRead old.phase b (ms ++ ns) new.phase new.rest) (append_assoc old.rest bytes more) read;
      place = subst (λ (n : ℕ). new.place ≡ capped (old.place + (length old.rest + n - length new.rest))) (sym (length-append bytes more))
          sum;
    }

-- a message that a reader gives
given_one : (r : Reading) (m : Message) (past : List ℕ) → Belongs r.phase m → r.rest ≡ spelling m ++ past
    → HasGiven r [] (m ∷ []) (record { phase = after r.phase m; place = capped (r.place + length (spelling m)); rest = past })
given_one r m past belongs parts =
    let taken : length r.rest + 0 - length past ≡ length (spelling m) =
    omega (arith, ap length parts, length-append (spelling m) past) in
    record {
      read = read_one r.phase (r.rest ++ []) past m belongs
          (subst (λ (b : List ℕ). b ≡ spelling m ++ past) (sym (append-nil r.rest)) parts);
      place = ap (λ (n : ℕ). capped (r.place + n)) (sym taken);
    }

pub given_message : (old now new : Reading) (bytes past : List ℕ) (ms : List Message) (m : Message) → HasGiven old bytes ms now
    → Belongs now.phase m → now.rest ≡ spelling m ++ past
    → new ≡ record { phase = after now.phase m; place = capped (now.place + length (spelling m)); rest = past }
    → HasGiven old bytes (ms ++ m ∷ []) new
given_message old now new bytes past ms m so_far belongs parts next =
    let last : Reading = record { phase = after now.phase m; place = capped (now.place + length (spelling m)); rest = past } in
    let all = given_then old now last bytes [] ms (m ∷ []) so_far (given_one now m past belongs parts) in
    subst (λ (r : Reading). HasGiven old bytes (ms ++ m ∷ []) r) (sym next)
    (subst (λ (b : List ℕ). HasGiven old b (ms ++ m ∷ []) last) (append-nil bytes) all)

pub given_piece : (old now : Reading) (bytes piece : List ℕ) (ms : List Message) → HasGiven old bytes ms now
    → HasGiven old (bytes ++ piece) ms (fed now piece)
given_piece old now bytes piece ms so_far = record {
  read = subst (λ (b : List ℕ). AreRead old.phase b ms now.phase (now.rest ++ piece)) (append_assoc old.rest bytes piece)
      (read_more old.phase now.phase (old.rest ++ bytes) now.rest piece ms so_far.read);
  place = omega (arith, so_far.place, length-append bytes piece, length-append now.rest piece);
}
