mod Miles
