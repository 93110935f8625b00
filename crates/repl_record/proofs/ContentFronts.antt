-- Fronts of the log: the shortest whose content has so many bytes.
use Rattle.std.proofs.Common.{◌≡◌, ℕ, ◌+◌, ◌-◌, ◌<◌, ◌≤◌, true, false, List, [], ◌∷◌, length, take, zero, suc, sym, ap, ◌∙◌, inl, inr, arith}
use Rattle.std.proofs.lemmas.Bool.{cases_Bool}
use Rattle.repl_page.specs.Page.{in_header}
use Rattle.repl_record.specs.Record.{content, LastIsContent}
use Rattle.repl_record.proofs.Content.{content-header_byte, content-byte, content-nil}

-- a front of the log, whose content is k bytes and ends with the last of them
pub record FrontOf (size from k : ℕ) (log : List ℕ) : Type 0 where
  pub m : ℕ
  pub within : m ≤ length log
  pub content_is : content size from (take m log) ≡ take k (content size from log)
  pub last : LastIsContent size from (take m log)

-- a front that is not empty ends where it does from one position on
last_past : (size from byte : ℕ) (bytes : List ℕ) → LastIsContent size (from + 1) bytes → LastIsContent size from (byte ∷ bytes)
last_past size from byte bytes last =
    let same : from + suc (length bytes) - 1 ≡ from + 1 + length bytes - 1 = omega arith in
    ap (in_header size) same ∙ last

front_past_header : (size from k byte : ℕ) (bytes : List ℕ) → in_header size from ≡ true → FrontOf size (from + 1) k bytes
    → FrontOf size from k (byte ∷ bytes)
front_past_header size from k byte bytes inside front = record {
  m = suc front.m;
  within = omega arith;
  content_is = content-header_byte size from byte (take front.m bytes) inside ∙ front.content_is
      ∙ ap (take k) (sym (content-header_byte size from byte bytes inside));
  last = last_past size from byte (take front.m bytes) front.last;
}

front_past_byte : (size from k byte : ℕ) (bytes : List ℕ) → in_header size from ≡ false → FrontOf size (from + 1) k bytes
    → FrontOf size from (suc k) (byte ∷ bytes)
front_past_byte size from k byte bytes outside front = record {
  m = suc front.m;
  within = omega arith;
  content_is = content-byte size from byte (take front.m bytes) outside ∙ ap (λ (t : List ℕ). byte ∷ t) front.content_is
      ∙ ap (take (suc k)) (sym (content-byte size from byte bytes outside));
  last = last_past size from byte (take front.m bytes) front.last;
}

front_of_byte : (size from byte : ℕ) (bytes : List ℕ) → in_header size from ≡ false → FrontOf size from 1 (byte ∷ bytes)
front_of_byte size from byte bytes outside = record {
  m = 1;
  within = omega arith;
  content_is = content-byte size from byte [] outside ∙ ap (λ (t : List ℕ). byte ∷ t) (content-nil size (from + 1))
      ∙ ap (take 1) (sym (content-byte size from byte bytes outside));
  last = let same : from + 1 - 1 ≡ from = omega arith in ap (in_header size) same ∙ outside;
}

pub front_of : (size from k : ℕ) (log : List ℕ) → 0 < k → k ≤ length (content size from log) → FrontOf size from k log
front_of size from k [] some enough = absurd (omega (arith, ap length (content-nil size from)))
front_of size from zero (byte ∷ bytes) some enough = absurd (omega arith)
front_of size from (suc zero) (byte ∷ bytes) some enough =
    elim (cases_Bool (in_header size from)) [
      | inl inside ↦ front_past_header size from 1 byte bytes inside (front_of size (from + 1) 1 bytes some (omega (
        arith,
        ap length (content-header_byte size from byte bytes inside),
      )))
      | inr outside ↦ front_of_byte size from byte bytes outside
    ]
front_of size from (suc (suc k)) (byte ∷ bytes) some enough =
    elim (cases_Bool (in_header size from)) [
      | inl inside ↦ front_past_header size from (suc (suc k)) byte bytes inside (front_of size (from + 1) (suc (suc k)) bytes some
          (omega (arith, ap length (content-header_byte size from byte bytes inside))))
      | inr outside ↦ front_past_byte size from (suc k) byte bytes outside (front_of size (from + 1) (suc k) bytes (omega arith)
          (omega (arith, ap length (content-byte size from byte bytes outside))))
    ]
