use Rattle.net_faults.proofs.listing.listed_faults.Goals as goal
