use Rattle.std.proofs.Common.{ℕ, Option, refl, subst}
use Rattle.node_writer.specs.Known.{IsFound, names_in}
use Rattle.dtm_builder.proofs.Recalling.{recalled_type, kept_recalls}
use Rattle.dtm_builder.proofs.recall.recall_name.Goals as goal

pub returns-in-Some-clause-found : goal.returns-in-Some-clause-found
returns-in-Some-clause-found c uris recalls here =
    recalled_type uris (names_in c.args.writer.now) c.args.row.now c.args.number c.as_slice.result.now c.in-Some.known c.as_slice.ensures
    (recalls c.args.row.now.kind c.args.number c.as_slice.result.now c.in-Some.known ((c.in-Some.ensures c.in-Some.known).0 refl)) here

pub returns-in_err-keep-in-Some-found-clause-recalled : goal.returns-in_err-keep-in-Some-found-clause-recalled
returns-in_err-keep-in-Some-found-clause-recalled c uris recalls here =
    kept_recalls uris (names_in c.args.writer.now) c.args.index.now c.keep.new.self c.args.row.now c.args.number c.as_slice-in-Some-found.result.now c.in-Some-found.known c.as_slice-in-Some-found.ensures recalls here
    (subst (λ (found : Option ℕ). IsFound (names_in c.args.writer.now) c.args.row.now found) c.in-Some-found.is c.type_number-found.ensures) c.in_err-keep-in-Some-found.ensures.only

pub returns-in_ok-keep-in-Some-found-clause-recalled : goal.returns-in_ok-keep-in-Some-found-clause-recalled
returns-in_ok-keep-in-Some-found-clause-recalled c uris recalls here =
    kept_recalls uris (names_in c.args.writer.now) c.args.index.now c.keep.new.self c.args.row.now c.args.number c.as_slice-in-Some-found.result.now c.in-Some-found.known c.as_slice-in-Some-found.ensures recalls here
    (subst (λ (found : Option ℕ). IsFound (names_in c.args.writer.now) c.args.row.now found) c.in-Some-found.is c.type_number-found.ensures) c.in_ok-keep-in-Some-found.ensures.only
