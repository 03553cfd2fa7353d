pub mod HalvingLaws
