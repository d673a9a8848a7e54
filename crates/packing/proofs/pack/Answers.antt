use Rattle.std.proofs.Common.{◌≡◌, length, Ok, sym, rules}
use Rattle.std.proofs.lemmas.Result.{IfOk-from_err}
use Rattle.macros.specs.Layout.{file_length}
use Rattle.macros.specs.Lent.{given}
use Rattle.packing.specs.Packing.{pack_answer, pack_memory}
use Rattle.packing.proofs.Files.{first_filled, macro_written}
use Rattle.packing.proofs.Promised.{promised, room_out}
use Rattle.packing.proofs.pack.Goals as goal

pub returns : goal.returns
returns c =
    let m = given c.args.source in
    let a : Ok (file_length (length m.edges)) ≡ pack_answer m (length c.args.out.now) = search rules in
    let z = first_filled _ _ _ (room_out _ _ (sym c.in_ok-test_room.ensures)) (c.fill.ensures.after (λ y is. is)) in
    let e = macro_written m c.args.out.now _ _ _ _ z c.header_fields.ensures c.write_header.ensures c.write_edges.ensures in
    record { answer = a; memory = e; promises = promised m c.args.out.now _ _ a e c.in_ok-test_macro.ensures.sized }

pub returns-in_err-test_macro : goal.returns-in_err-test_macro
returns-in_err-test_macro c =
    let m = given c.args.source in
    let r = c.from_residual.result in
    let a : r ≡ pack_answer m (length c.args.out.now) = search rules in
    let e : c.args.out.now ≡ pack_memory r m c.args.out.now = search rules in
    record { answer = a; memory = e; promises = promised m c.args.out.now _ r a e (IfOk-from_err r _ c.from_residual.ensures.0) }

pub returns-in_err-test_room : goal.returns-in_err-test_room
returns-in_err-test_room c =
    let m = given c.args.source in
    let r = c.from_residual-in_err-test_room.result in
    let a : r ≡ pack_answer m (length c.args.out.now) = search rules in
    let e : c.args.out.now ≡ pack_memory r m c.args.out.now = search rules in
    record { answer = a; memory = e; promises = promised m c.args.out.now _ r a e (IfOk-from_err r _ c.from_residual-in_err-test_room.ensures.0) }
