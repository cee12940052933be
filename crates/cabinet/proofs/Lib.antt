mod Logging
