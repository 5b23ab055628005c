-- A lot came to rest after a call that ended early.
use Rattle.std.proofs.Common.{◌≢◌, ℕ, true, [], ◌∷◌, Result, Err, Option, sym, ap, ◌∙◌, arith}
use Rattle.flow_outside.specs.Blocks.{Blocks}
use Rattle.flow_outside.specs.declared.failure.StreamFault.{StreamFault}
use Rattle.spool.specs.Spilling.{HasWriteCause}
use Rattle.lot_store.specs.Lots.{LotView}
use Rattle.lot_store.specs.Storage.{lot_at}
use Rattle.lot_store.proofs.StorageLaws.{preserves_join, preserves_more}
use Rattle.row_pipe.specs.Pipes.{HasPassCause}
use Rattle.worker_storage.specs.Storages.{KeepsStorage, Storage, view_of}

pub keeps_at_rest : {D : Type 0} (told : D → Option Blocks) (a b c : Storage D) (from to : ℕ) → KeepsStorage told a b (from ∷ to ∷ []) (to ∷ []) true → KeepsStorage told b c (to ∷ []) (to ∷ []) true → KeepsStorage told a c (from ∷ to ∷ []) (to ∷ []) true
keeps_at_rest told a b c from to f g = record {
  size = g.size ∙ f.size;
  preserves = preserves_join (view_of told a) (view_of told b) (view_of told c) (from ∷ to ∷ []) (to ∷ []) true f.preserves
      (preserves_more (view_of told b) (view_of told c) (to ∷ []) (to ∷ []) (from ∷ to ∷ []) (to ∷ []) true true (λ i none. none.1) (λ i none. none) (λ is. is) g.preserves);
}

pub cause_at_rest : {D : Type 0} (told : D → Option Blocks) (b c : Storage D) (from to : ℕ) (d : LotView) (first then last : ℕ) (was : Option Blocks) (fault : StreamFault) {T : Type 0} {rested : Result T StreamFault} → from ≢ to
    → KeepsStorage told b c (to ∷ []) (to ∷ []) true → HasWriteCause then last rested → HasPassCause first then was (lot_at b.lots from d) (Err fault) → HasPassCause first last was (lot_at c.lots from d) (Err fault)
cause_at_rest told b c from to d first then last was fault apart keeps later cause = record {
  cause = record {
    later = omega (arith, cause.cause.later, later.later);
    spill = λ is. omega (arith, cause.cause.spill is, later.later);
    damaged = cause.cause.damaged;
  };
  damaged = λ block is. cause.damaged block is ∙ sym (ap (λ (lot : LotView). lot.read_last) (keeps.preserves.same from d (apart, tt)));
}
