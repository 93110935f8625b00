-- The checksum goes on from that of the body.
use Rattle.std.proofs.Common.{◌≡◌, ◌-◌, length, take, drop, ap, ◌∙◌}
use Rattle.std.proofs.lemmas.List.{take_rest}
use Rattle.repl_record.specs.Checksum.{checksum_from}
use Rattle.repl_record.proofs.ChecksumPieces.{goes_on}
use Rattle.repl_record.proofs.at_once.sum_of.Goals as goal

pub returns : goal.returns
returns c =
    let record_bytes = c.args.record.now in
    let body : take (length record_bytes - 24) (drop 24 record_bytes) ≡ drop 24 record_bytes = take_rest record_bytes 24 in
    c.crc32c-2.ensures
    ∙ ap (λ sum. checksum_from sum (take 20 record_bytes)) (c.crc32c.ensures ∙ ap (checksum_from 0) body)
    ∙ goes_on 0 (drop 24 record_bytes) (take 20 record_bytes)
