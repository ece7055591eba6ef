pub mod SameCharges
