-- The array has room, so that the reading goes by the field alone (`Reading`).
use Rattle.std.proofs.Common.{ℕ, ◌<◌, ◌^◌, List, replicate, refl}
use lib.IntN.{nat_abs}
use mir.Facts.{to_z-of_z}
use Rattle.card.specs.Fields.{number_in, field_of}
use Rattle.replies.specs.Sizes.{longest}
use Rattle.replies.proofs.Reading.{said, not-said}
use Rattle.replies.proofs.read_out.Goals as goal

-- the array as it is lent
abbrev room : List ℕ
room = replicate longest 0

pub returns-in-Ok-clause-card_value : goal.returns-in-Ok-clause-card_value
returns-in-Ok-clause-card_value c =
    let z = to_z-of_z c.ranges.field in
    let small : nat_abs (number_in (field_of c.args.card.now c.args.field)) < 2 ^ 64 = rw z at c.read.ensures.field_bound in
    (said c.args.card.now c.args.field room refl small c.in-Ok.length c.read.new.self (rw z at c.in-Ok.ensures.result_value)).0

pub returns-in-Ok-clause-appends : goal.returns-in-Ok-clause-appends
returns-in-Ok-clause-appends c =
    let z = to_z-of_z c.ranges.field in
    let small : nat_abs (number_in (field_of c.args.card.now c.args.field)) < 2 ^ 64 = rw z at c.read.ensures.field_bound in
    let w = said c.args.card.now c.args.field room refl small c.in-Ok.length c.read.new.self (rw z at c.in-Ok.ensures.result_value) in
    rw (c.read.ensures.buf_after, z, w.1) at c.append.ensures

pub returns-in-Err-clause-card_value : goal.returns-in-Err-clause-card_value
returns-in-Err-clause-card_value c =
    let z = to_z-of_z c.ranges.field in
    let small : nat_abs (number_in (field_of c.args.card.now c.args.field)) < 2 ^ 64 = rw z at c.read.ensures.field_bound in
    (not-said c.args.card.now c.args.field room refl small c.in-Err.refusal c.read.new.self (rw z at c.in-Err.ensures.result_value)).1

pub returns-in-Err-clause-appends : goal.returns-in-Err-clause-appends
returns-in-Err-clause-appends c =
    let z = to_z-of_z c.ranges.field in
    let small : nat_abs (number_in (field_of c.args.card.now c.args.field)) < 2 ^ 64 = rw z at c.read.ensures.field_bound in
    let w = not-said c.args.card.now c.args.field room refl small c.in-Err.refusal c.read.new.self (rw z at c.in-Err.ensures.result_value) in
    rw (w.0) at c.append_refusal.ensures.appends
